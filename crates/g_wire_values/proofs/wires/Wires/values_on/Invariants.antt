use Rattle.std.proofs.Common.{◌≡◌, map, take}
use Rattle.g_border.specs.Readers.{value_on}
use Rattle.g_wire_values.specs.Wires.{reader}
use Rattle.g_wire_values.proofs.wires.Wires.values_on.Given as goal

abbrev pub invariant-loop-wire : goal.invariant-loop-wire
invariant-loop-wire l = l.values.items ≡ map (value_on (reader l.self)) (take l.wire-index l.wires)
