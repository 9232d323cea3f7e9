use Rattle.std.proofs.Common.{◌+◌, ◌<◌, ℕ, length, take, get_or, refl, arith}
use Rattle.std.specs.Prelude.{slice_index}
use Rattle.g_hier.specs.declared.linked.CallLine.{CallLine}
use Rattle.g_hier.proofs.Numbers.{one_same}
use Rattle.g_hier.proofs.Calls.{calls_more, calls_fewer}
use Rattle.g_hier.proofs.SettlingSteps.{settled_more}
use Rattle.g_hier.proofs.counts.settle_calls.Goals as goal

pub settle_call-requires-clause-awaited : goal.settle_call-requires-clause-awaited
settle_call-requires-clause-awaited c =
    let cs = c.args.calls.now in
    let i : ℕ = c.loop-call.call-index in
    let d : CallLine = record { line = 0; vi = 0 } in
    let lt : i < length cs = omega arith in
    let u : ℕ = (get_or cs i d).vi in
    let known : u < length c.args.incoming.now.items = c.requires.below i d lt in
    let a = c.loop-call.invariant.waits_less u known in
    let b = calls_fewer u cs i d lt in
    let e = one_same u u refl in
    let q = c.requires.awaited u known in
    omega (arith, a, b, e, q)

pub loop-call-preserved : goal.loop-call-preserved
loop-call-preserved c =
    let cs = c.args.calls.now in
    let i : ℕ = c.loop-call.call-index in
    let d : CallLine = record { line = 0; vi = 0 } in
    let lt : i < length cs = omega arith in
    let u : ℕ = (get_or cs i d).vi in
    let known : u < length c.args.incoming.now.items = c.requires.below i d lt in
    let a = c.loop-call.invariant.waits_less u known in
    let b = calls_fewer u cs i d lt in
    let e = one_same u u refl in
    let q = c.requires.awaited u known in
    let some : 0 < slice_index c.loop-call.waiting.items u = omega (arith, a, b, e, q) in
    settled_more c.args.count (take i cs) (take (i + 1) cs) u c.args.waiting.now.items c.args.incoming.now.items c.args.ready.now.items
    c.loop-call.waiting.items c.loop-call.incoming.items c.loop-call.ready.items c.settle_call.new.waiting.items c.settle_call.new.incoming.items c.settle_call.new.ready.items
    c.loop-call.invariant (λ v. calls_more v cs i d lt) c.requires.long known some c.in_ok-settle_call.ensures.waiting c.in_ok-settle_call.ensures.incoming c.in_ok-settle_call.ensures.ready
