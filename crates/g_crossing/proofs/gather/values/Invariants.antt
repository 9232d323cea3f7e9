use Rattle.std.proofs.Common.{◌≡◌, ◌++◌, drop, map}
use Rattle.g_border.specs.Readers.{value_on}
use Rattle.g_wire_values.specs.Wires.{reader}
use Rattle.g_crossing.proofs.gather.values.Given as goal

abbrev pub invariant-loop-wires : goal.invariant-loop-wires
invariant-loop-wires l = l.values ++ map (λ r. value_on r l.wire) (map reader (drop l.wires-index l.inner)) ≡ map (λ r. value_on r l.wire) (map reader l.inner)
