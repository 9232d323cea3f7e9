use Rattle.std.proofs.Common.{◌≡◌, ◌++◌, map, drop}
use Rattle.g_border.specs.Readers.{value_on}
use Rattle.g_wire_values.specs.Wires.{reader}
use Rattle.g_firing.proofs.simple.values_on.Given as goal

abbrev pub invariant-loop-wire : goal.invariant-loop-wire
invariant-loop-wire l = l.values ++ map (value_on (reader l.wires)) (drop l.wire-index l.inputs) ≡ map (value_on (reader l.wires)) l.inputs
