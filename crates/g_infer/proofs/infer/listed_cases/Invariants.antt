use Rattle.std.proofs.Common.{◌≡◌, ◌++◌, length, map}
use Rattle.std.specs.Vec.Iter.{into_iter_items, into_iter_len}
use Rattle.g_infer.specs.Inferred.{told_case}
use Rattle.g_infer.proofs.infer.listed_cases.Given as goal

abbrev pub invariant-loop-scope : goal.invariant-loop-scope
invariant-loop-scope l = record {
  told : l.cases.items ++ map told_case (into_iter_items l.scope-iterator) ≡ map told_case (into_iter_items l.initial.scope-iterator);
  len : into_iter_len l.scope-iterator ≡ length (into_iter_items l.scope-iterator);
}
