use Rattle.std.proofs.Common.{◌≡◌, map, take}
use Rattle.g_diagram.specs.Operands.{free_consumer, Inside}
use Rattle.g_diagram_ports.specs.Seen.{seen_operand}
use Rattle.g_diagram_ports.proofs.border.give_operands.Given as goal

abbrev pub invariant-loop-wire : goal.invariant-loop-wire
invariant-loop-wire l = map seen_operand l.operands.items ≡ map (free_consumer Inside) (take l.wire-index l.gives)
