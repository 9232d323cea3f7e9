use Rattle.std.proofs.Common.{◌≡◌, take, map}
use Rattle.g_prims_definitions.specs.Bits.{truth}
use Rattle.g_values.specs.declared.value.Value.TheVariants as value
use Rattle.std.specs.Prelude.{not}
use Rattle.g_prims_evaluation.proofs.bits.inverted_truths.Given as goal

abbrev pub invariant-loop-x : goal.invariant-loop-x
invariant-loop-x l = l.all ≡ map (λ x. value.Bool (not (truth x))) (take l.x-index l.xs)
