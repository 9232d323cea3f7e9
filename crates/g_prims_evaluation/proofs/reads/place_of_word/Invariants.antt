use Rattle.std.proofs.Common.{◌≡◌, drop, map}
use Rattle.std.specs.Ordering.{int_eq}
use Rattle.g_prims_definitions.specs.Arrays.{first_place}
use Rattle.g_values.specs.Numbers.{number}
use Rattle.g_prims_evaluation.proofs.reads.place_of_word.Given as goal

abbrev pub invariant-loop-at : goal.invariant-loop-at
invariant-loop-at l = first_place (int_eq l.e.n) 0 (map (number l.rep) l.words) ≡ first_place (int_eq l.e.n) l.at (map (number l.rep) (drop l.at l.words))
