use Rattle.std.proofs.Common.{◌≡◌, drop}
use Rattle.std.specs.List.{list_all}
use Rattle.g_border.specs.Readers.{has_value}
use Rattle.g_wire_values.specs.Wires.{reader}
use Rattle.g_node_values.proofs.inputs.has_all.Given as goal

abbrev pub invariant-loop-wire : goal.invariant-loop-wire
invariant-loop-wire l = list_all (has_value (reader l.wires)) (drop l.wire-index l.operands) ≡ list_all (has_value (reader l.wires)) l.operands
