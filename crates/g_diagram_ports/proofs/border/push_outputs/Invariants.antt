use Rattle.std.proofs.Common.{◌≡◌, ◌++◌, map, take}
use Rattle.g_diagram.specs.Operands.{source, Outside}
use Rattle.g_diagram_ports.specs.Seen.{seen_operand}
use Rattle.g_diagram_ports.proofs.border.push_outputs.Given as goal

abbrev pub invariant-loop-wire : goal.invariant-loop-wire
invariant-loop-wire l = map seen_operand l.operands.items ≡ map seen_operand l.fn.operands.items ++ map (source Outside) (take l.wire-index l.outputs)
