use Rattle.std.proofs.Common.{◌≡◌, drop, map}
use Rattle.g_prims_definitions.specs.Comparisons.{same, all_same}
use Rattle.g_prims_evaluation.proofs.comparisons.+same.Given as goal

abbrev pub invariant-all_same-loop-at : goal.invariant-all_same-loop-at
invariant-all_same-loop-at l = all_same (map same l.xs) l.ys ≡ all_same (map same (drop l.at l.xs)) (drop l.at l.ys)
