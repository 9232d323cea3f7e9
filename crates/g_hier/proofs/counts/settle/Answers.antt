use Rattle.std.proofs.Common.{◌==◌, ◌≤◌, List, ap, sym, ◌∙◌, subst}
use Rattle.std.specs.Prelude.{slice_index}
use Rattle.g_hier.specs.declared.linked.CallLine.{CallLine}
use Rattle.g_hier.specs.Counts.{calls_to, count_for}
use Rattle.g_hier.specs.Settling.{SettledCalls}
use Rattle.g_hier.proofs.SettlingSteps.{settle_awaits, settling_next}
use Rattle.g_hier.proofs.counts.settle.Goals as goal

pub settle_calls-requires-clause-awaited : goal.settle_calls-requires-clause-awaited
settle_calls-requires-clause-awaited c = λ v lt.
    let P : List CallLine → Type 0 = λ cs. calls_to v cs ≤ slice_index c.args.waiting.now.items v in
    subst P (sym c.as_slice.ensures) (settle_awaits c.args.outlines.now c.args.main c.args.waiting.now.items c.args.incoming.now.items c.args.counts.now.items c.args.ready.now.items c.args.vi
    c.outline_at-outline.result.now c.requires.settling c.outline_at-outline.ensures c.requires.below v lt)

pub returns-clause-settling : goal.returns-clause-settling
returns-clause-settling c =
    let P : List CallLine → Type 0 = λ cs. SettledCalls c.spaces_for-count.result cs c.args.waiting.now.items c.args.incoming.now.items c.args.ready.now.items c.settle_calls.new.waiting.items c.settle_calls.new.incoming.items c.settle_calls.new.ready.items in
    settling_next c.args.outlines.now c.args.main c.args.waiting.now.items c.args.incoming.now.items c.args.counts.now.items c.args.ready.now.items c.args.vi
    c.outline_at-outline.result.now c.spaces_for-count.result c.settle_calls.new.waiting.items c.settle_calls.new.incoming.items c.settle_calls.new.ready.items
    c.requires.settling c.outline_at-outline.ensures c.requires.below (c.spaces_for-count.ensures.count ∙ ap (count_for (c.args.vi == c.args.main) c.outline_at-outline.result.now.clones) c.number_at-callers.ensures) c.spaces_for-count.ensures.kept
    (subst P c.as_slice.ensures c.in_ok-settle_calls.ensures)
