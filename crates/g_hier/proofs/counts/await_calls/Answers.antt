use Rattle.std.proofs.Common.{◌≡◌, ◌+◌, ◌<◌, ℕ, length, take, get_or, arith}
use Rattle.g_hier.specs.declared.linked.CallLine.{CallLine}
use Rattle.g_hier.proofs.Calls.{calls_more, awaited_more}
use Rattle.g_hier.proofs.counts.await_calls.Goals as goal

pub loop-call-preserved : goal.loop-call-preserved
loop-call-preserved c =
    let cs = c.args.calls.now in
    let i : ℕ = c.loop-call.call-index in
    let d : CallLine = record { line = 0; vi = 0 } in
    let lt : i < length cs = omega arith in
    let known : (get_or cs i d).vi < length c.args.waiting.now.items = c.requires i d lt in
    let len : length c.loop-call.waiting.items ≡ length c.args.waiting.now.items = c.loop-call.invariant.len in
    record {
      len = let e = c.in_ok-await_call.ensures.len in omega (arith, e, len);
      waits = awaited_more c.args.waiting.now.items c.loop-call.waiting.items c.await_call.new.waiting.items (take i cs) (take (i + 1) cs) (get_or cs i d).vi
          (omega (arith, known, len)) c.loop-call.invariant.waits (λ v. calls_more v cs i d lt) c.in_ok-await_call.ensures.waiting;
    }
