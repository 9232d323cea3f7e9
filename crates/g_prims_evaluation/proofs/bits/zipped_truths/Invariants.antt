use Rattle.std.proofs.Common.{◌≡◌, ◌++◌, drop}
use Rattle.g_prims_definitions.specs.Bits.{truth}
use Rattle.g_prims_edits.specs.Words.{on_truths}
use Rattle.g_values.specs.declared.value.Value.TheVariants as value
use Rattle.std.specs.Simd.Lanes.{zip2}
use Rattle.g_prims_evaluation.proofs.bits.zipped_truths.Given as goal

abbrev pub invariant-loop-at : goal.invariant-loop-at
invariant-loop-at l = l.all ++ zip2 (λ x y. value.Bool (on_truths l.operator (truth x) (truth y))) (drop l.at l.xs) (drop l.at l.ys) ≡ zip2 (λ x y. value.Bool (on_truths l.operator (truth x) (truth y))) l.xs l.ys
