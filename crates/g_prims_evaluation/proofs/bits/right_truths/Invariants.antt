use Rattle.std.proofs.Common.{◌≡◌, take, map}
use Rattle.g_prims_definitions.specs.Bits.{truth}
use Rattle.g_prims_edits.specs.Words.{on_truths}
use Rattle.g_values.specs.declared.value.Value.TheVariants as value
use Rattle.g_prims_evaluation.proofs.bits.right_truths.Given as goal

abbrev pub invariant-loop-y : goal.invariant-loop-y
invariant-loop-y l = l.all ≡ map (λ y. value.Bool (on_truths l.operator l.a (truth y))) (take l.y-index l.ys)
