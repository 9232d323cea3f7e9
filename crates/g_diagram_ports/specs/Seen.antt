-- Operands and ports, as the definitions have them.
use Rattle.std.specs.Prelude.{ℕ, Bool, true, false, List, Option, Some, None}
use denote.Ref.{Bor}
use Rattle.g_diagram.specs.declared.node.Tunnel.{Tunnel}
use Rattle.g_diagram.specs.Lines.{Wire}
use Rattle.g_diagram.specs.Operands as operands
use Rattle.g_diagram.specs.Ports as ports
use Rattle.g_diagram_ports.specs.declared.operand.Side.{Side}
use Rattle.g_diagram_ports.specs.declared.operand.Side.TheVariants.{Outside, Inside, Before}
use Rattle.g_diagram_ports.specs.declared.operand.Operand.{Operand}
use Rattle.g_diagram_ports.specs.declared.port.Port.{Port}
use Rattle.g_diagram_ports.specs.Tunnels.{outer_border}

abbrev pub seen_side : Side → operands.Side
seen_side Outside = operands.Outside
seen_side Inside = operands.Inside
seen_side Before = operands.Before

abbrev pub seen_wire : Option (Bor (List ℕ)) → Wire
seen_wire None = None
seen_wire (Some name) = Some name.now

abbrev pub seen_operand : Operand → operands.Operand
seen_operand o = record { is_source = o.is_source; side = seen_side o.side; is_free = o.is_free; wire = seen_wire o.wire }

abbrev pub seen : Port → ports.Port
seen p =
    record { line = p.line; operand = p.operand; diagram = p.diagram; node = p.node; is_source = p.is_source; is_free = p.is_free; wire = seen_wire p.wire }

-- the table of operands of a border line, but for what a case's tunnel gives in branches
abbrev pub form_of : (in_case : Bool) → Tunnel → List operands.Operand
form_of true t = outer_border t
form_of false t = operands.border t
