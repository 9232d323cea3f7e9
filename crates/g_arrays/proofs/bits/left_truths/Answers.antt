use Rattle.std.proofs.Common.{ap, ◌∙◌, arith, set}
use Rattle.std.proofs.lemmas.List.Edits.{map_over_more}
use Rattle.g_prims_edits.specs.Words.{on_truths}
use Rattle.g_prims_definitions.specs.Bits.{truth}
use Rattle.g_values.specs.declared.value.Value.TheVariants as value
use Rattle.g_arrays.proofs.bits.left_truths.Goals as goal

pub loop-at-preserved : goal.loop-at-preserved
loop-at-preserved c =
    ap (λ b. set c.loop-at.items.items c.loop-at.at (value.Bool b)) (c.combined_truth-b.ensures ∙ ap (λ t. on_truths c.args.operator t c.args.by) c.is_true.ensures)
    ∙ map_over_more (λ x. value.Bool (on_truths c.args.operator (truth x) c.args.by)) c.args.items.now.items c.loop-at.items.items c.loop-at.at c.index.result.now (omega arith) c.loop-at.invariant c.index.ensures
