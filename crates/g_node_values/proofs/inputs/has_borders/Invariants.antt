use Rattle.std.proofs.Common.{◌≡◌, drop}
use Rattle.g_node_values.specs.Inputs.{borders_have}
use Rattle.g_wire_values.specs.Wires.{reader}
use Rattle.g_node_values.proofs.inputs.has_borders.Given as goal

abbrev pub invariant-loop-line : goal.invariant-loop-line
invariant-loop-line l = borders_have (reader l.wires) (drop l.line-index l.lines) ≡ borders_have (reader l.wires) l.lines
