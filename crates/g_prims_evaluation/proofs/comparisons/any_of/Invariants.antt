use Rattle.std.proofs.Common.{◌≡◌, take, false}
use Rattle.std.specs.List.{list_any}
use Rattle.g_prims_definitions.specs.Bits.{truth}
use Rattle.g_prims_evaluation.proofs.comparisons.any_of.Given as goal

abbrev pub invariant-loop-i : goal.invariant-loop-i
invariant-loop-i l = list_any truth (take l.i l.items) ≡ false
