use Rattle.std.proofs.Common.{◌≡◌, take, map}
use Rattle.g_prims_definitions.specs.Bits.{truth}
use Rattle.g_prims_edits.specs.Words.{on_truths}
use Rattle.g_values.specs.declared.value.Value.TheVariants as value
use Rattle.g_prims_evaluation.proofs.bits.left_truths.Given as goal

abbrev pub invariant-loop-x : goal.invariant-loop-x
invariant-loop-x l = l.all ≡ map (λ x. value.Bool (on_truths l.operator (truth x) l.b)) (take l.x-index l.xs)
