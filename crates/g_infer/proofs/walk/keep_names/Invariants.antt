use Rattle.std.proofs.Common.{◌≡◌, ℕ, List, length, map}
use Rattle.std.specs.Prelude.{None}
use Rattle.std.specs.Vec.Iter.{into_iter_items, into_iter_len}
use Rattle.g_infer.specs.Given.{seen_given}
use Rattle.g_rules_types.specs.Panels.{found}
use Rattle.g_infer.specs.Walking.{named_after}
use Rattle.g_infer.proofs.walk.keep_names.Given as goal

abbrev pub invariant-loop-given : goal.invariant-loop-given
invariant-loop-given l = record {
  types : (n : List ℕ) → named_after (map seen_given (into_iter_items l.given-iterator)) n (found l.scope n)
      ≡ named_after (map seen_given (into_iter_items l.initial.given-iterator)) n None;
  len : into_iter_len l.given-iterator ≡ length (into_iter_items l.given-iterator);
}
