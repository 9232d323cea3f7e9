use Rattle.std.proofs.Common.{◌≡◌, ◌++◌, drop, map}
use Rattle.g_types.specs.Rep.{wrap}
use Rattle.g_prims_definitions.specs.Arrays.{number_of}
use Rattle.g_border.specs.Readers.{value_on}
use Rattle.g_wire_values.specs.Wires.{reader}
use Rattle.g_crossing.proofs.gather.numbers.Given as goal

abbrev pub invariant-loop-wires : goal.invariant-loop-wires
invariant-loop-wires l = record {
  rep : l.numbers.rep ≡ l.rep;
  rest : l.numbers.all ++ map (λ v. wrap l.rep (number_of v)) (map (λ r. value_on r l.wire) (map reader (drop l.wires-index l.inner)))
      ≡ map (λ v. wrap l.rep (number_of v)) (map (λ r. value_on r l.wire) (map reader l.inner));
}
