use Rattle.std.proofs.Common.{◌≡◌, ℕ, List, length, map}
use Rattle.std.specs.Vec.Iter.{into_iter_items, into_iter_len}
use Rattle.g_infer.specs.Given.{seen_given}
use Rattle.g_rules_types.specs.Known.{types_of, IsIndexed}
use Rattle.g_infer.specs.Walking.{known_after}
use Rattle.g_infer.proofs.walk.keep_all.Given as goal

abbrev pub invariant-loop-given : goal.invariant-loop-given
invariant-loop-given l = record {
  types : (d : ℕ) (n : List ℕ) → known_after (map seen_given (into_iter_items l.given-iterator)) d n (types_of l.types d n)
      ≡ known_after (map seen_given (into_iter_items l.initial.given-iterator)) d n (types_of l.initial.types d n);
  len : into_iter_len l.given-iterator ≡ length (into_iter_items l.given-iterator);
  indexed : IsIndexed l.initial.types → IsIndexed l.types;
}
