use Rattle.std.proofs.Common.{◌≡◌, ◌++◌, map, take, drop}
use Rattle.g_prims_definitions.specs.Bits.{truth}
use Rattle.g_prims_edits.specs.Words.{on_truths}
use Rattle.g_values.specs.declared.value.Value.TheVariants as value
use Rattle.g_arrays.proofs.bits.left_truths.Given as goal

abbrev pub invariant-loop-at : goal.invariant-loop-at
invariant-loop-at l = l.items.items ≡ map (λ x. value.Bool (on_truths l.operator (truth x) l.by)) (take l.at l.fn.items.items) ++ drop l.at l.fn.items.items
