use Rattle.std.proofs.Common.{◌≡◌, ◌++◌, drop, map}
use Rattle.g_types.specs.Rep.{wrap}
use Rattle.g_prims_definitions.specs.Arrays.{number_of}
use Rattle.g_literals.specs.Values as spec
use Rattle.g_literals.proofs.values.+literal.Given as goal

abbrev pub invariant-numbers_of-loop-i : goal.invariant-numbers_of-loop-i
invariant-numbers_of-loop-i l = record {
  rep : l.numbers.rep ≡ l.rep;
  rest : l.numbers.all ++ map (λ v. wrap l.rep (number_of v)) (spec.values_in (map spec.literal_value (drop l.i l.items)) l.ty)
      ≡ map (λ v. wrap l.rep (number_of v)) (spec.values_in (map spec.literal_value l.items) l.ty);
}

abbrev pub invariant-elements_of-loop-i : goal.invariant-elements_of-loop-i
invariant-elements_of-loop-i l = l.values.items ++ spec.values_in (map spec.literal_value (drop l.i l.items)) l.ty ≡ spec.values_in (map spec.literal_value l.items) l.ty

abbrev pub invariant-cluster_of-loop-i : goal.invariant-cluster_of-loop-i
invariant-cluster_of-loop-i l =
    l.values.items ++ spec.values_each (map spec.literal_value (drop l.i l.items)) (drop l.i l.types) ≡ spec.values_each (map spec.literal_value l.items) l.types
