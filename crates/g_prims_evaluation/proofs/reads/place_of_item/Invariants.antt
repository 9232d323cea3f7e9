use Rattle.std.proofs.Common.{◌≡◌, drop}
use Rattle.g_prims_definitions.specs.Comparisons.{same}
use Rattle.g_prims_definitions.specs.Arrays.{first_place}
use Rattle.g_prims_evaluation.proofs.reads.place_of_item.Given as goal

abbrev pub invariant-loop-at : goal.invariant-loop-at
invariant-loop-at l = first_place (same l.e) 0 l.items ≡ first_place (same l.e) l.at (drop l.at l.items)
