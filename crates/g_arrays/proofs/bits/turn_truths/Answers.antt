use Rattle.std.proofs.Common.{ap, ◌∙◌, arith, set, not}
use Rattle.std.proofs.lemmas.List.Edits.{map_over_more}
use Rattle.g_prims_definitions.specs.Bits.{truth}
use Rattle.g_values.specs.declared.value.Value.TheVariants as value
use Rattle.g_arrays.proofs.bits.turn_truths.Goals as goal

pub loop-at-preserved : goal.loop-at-preserved
loop-at-preserved c =
    ap (λ t. set c.loop-at.items.items c.loop-at.at (value.Bool (not t))) c.is_true-b.ensures
    ∙ map_over_more (λ x. value.Bool (not (truth x))) c.args.items.now.items c.loop-at.items.items c.loop-at.at c.index.result.now (omega arith) c.loop-at.invariant c.index.ensures
