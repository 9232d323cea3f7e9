use Rattle.std.proofs.Common.{◌≡◌, drop, map}
use Rattle.g_diagram_table.specs.Seen as node
use Rattle.g_node_values.specs.Inputs.{parts_have}
use Rattle.g_wire_values.specs.Wires.{reader}
use Rattle.g_node_values.proofs.inputs.has_parts.Given as goal

abbrev pub invariant-loop-part : goal.invariant-loop-part
invariant-loop-part l = parts_have (reader l.wires) (map node.seen_part (drop l.part-index l.parts)) ≡ parts_have (reader l.wires) (map node.seen_part l.parts)
