use Rattle.std.proofs.Common.{◌≡◌, drop, map}
use Rattle.std.specs.Cmp.Lexicographic.{pointwise}
use Rattle.std.specs.Ordering.{int_eq}
use Rattle.g_values.specs.Numbers.{number}
use Rattle.g_prims_evaluation.proofs.comparisons.are_same_words.Given as goal

abbrev pub invariant-loop-at : goal.invariant-loop-at
invariant-loop-at l = pointwise int_eq (map (number l.a) l.xs) (map (number l.b) l.ys) ≡ pointwise int_eq (map (number l.a) (drop l.at l.xs)) (map (number l.b) (drop l.at l.ys))
