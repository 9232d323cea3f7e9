use Rattle.std.proofs.Common.{◌≡◌, ◌++◌, ◌≤◌, drop}
use Rattle.g_frames.specs.Panels as panels
use Rattle.g_wire_values.specs.Wires.{reader}
use Rattle.g_node_values.proofs.panel.arguments.Given as goal

abbrev pub invariant-loop-item : goal.invariant-loop-item
invariant-loop-item l =
    (l.at ≤ l.item-index)
    × (l.values.items ++ panels.arguments (reader l.wires) (drop l.at l.inputs) (drop l.item-index l.items) ≡ panels.arguments (reader l.wires) l.inputs l.items)
