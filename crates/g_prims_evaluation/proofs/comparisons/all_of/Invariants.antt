use Rattle.std.proofs.Common.{◌≡◌, take, true}
use Rattle.std.specs.List.{list_all}
use Rattle.g_prims_definitions.specs.Bits.{truth}
use Rattle.g_prims_evaluation.proofs.comparisons.all_of.Given as goal

abbrev pub invariant-loop-i : goal.invariant-loop-i
invariant-loop-i l = list_all truth (take l.i l.items) ≡ true
