use Rattle.std.proofs.Common.{◌≡◌, ◌++◌, take, drop}
use Rattle.std.specs.Simd.Lanes.{zip2}
use Rattle.std.proofs.Common.{length, ◌≤◌}
use Rattle.g_prims_definitions.specs.Bits.{truth}
use Rattle.g_prims_edits.specs.Words.{on_truths}
use Rattle.g_values.specs.declared.value.Value.TheVariants as value
use Rattle.g_arrays.proofs.bits.zip_truths.Given as goal

abbrev pub invariant-loop-at : goal.invariant-loop-at
invariant-loop-at l =
    (length l.initial.items.items ≤ length l.other)
    × (l.items.items ≡ zip2 (λ x y. value.Bool (on_truths l.operator (truth x) (truth y))) (take l.at l.initial.items.items) (take l.at l.other) ++ drop l.at l.initial.items.items)
