use Rattle.std.proofs.Common.{◌-◌, ◌<◌, ◌++◌, ℕ, reverse, length, drop, get_or, ap, sym, ◌∙◌, arith}
use Rattle.std.specs.Prelude.{slice_get}
use Rattle.g_hier.specs.declared.linked.CallLine.{CallLine}
use Rattle.g_hier.specs.LinkOrder.{placed_by, entered_by}
use Rattle.g_hier.proofs.Walks.{stack_more, calls_more_from}
use Rattle.g_hier.proofs.spaces.push_calls.Goals as goal

pub loop-done-preserved : goal.loop-done-preserved
loop-done-preserved c =
    let os = c.args.outlines.now in
    let cs = c.args.calls.now in
    let n : ℕ = c.loop-done.done in
    let d : CallLine = record { line = 0; vi = 0 } in
    let call : CallLine = get_or cs (length cs - 1 - n) d in
    let lt : n < length cs = omega arith in
    stack_more c.args.pending.now.items c.loop-done.pending.items c.push_call.new.pending.items
    (placed_by (slice_get os call.vi) call.vi (record { space = c.args.space; line = call.line }) c.args.system)
    (entered_by os c.args.space c.args.system (drop (length cs - n) cs))
    c.loop-done.invariant c.in_ok-push_call.ensures
    ∙ ap (λ xs. c.args.pending.now.items ++ reverse xs) (sym (calls_more_from os c.args.space c.args.system cs n d lt))
