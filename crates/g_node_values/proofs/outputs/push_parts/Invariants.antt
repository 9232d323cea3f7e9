use Rattle.std.proofs.Common.{◌≡◌, ◌++◌, drop, map}
use Rattle.g_diagram_table.specs.Seen as node
use Rattle.g_node_values.specs.Outputs.{parts_places}
use Rattle.g_node_values.proofs.outputs.push_parts.Given as goal

abbrev pub invariant-loop-part : goal.invariant-loop-part
invariant-loop-part l = l.places.items ++ parts_places (map node.seen_part (drop l.part-index l.parts)) ≡ l.fn.places.items ++ parts_places (map node.seen_part l.parts)
