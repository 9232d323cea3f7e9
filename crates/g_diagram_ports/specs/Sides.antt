-- Inner: lines by the sides of a node's border.
use Rattle.std.specs.Prelude.{ℕ, List, []}
use Rattle.g_diagram.specs.Operands as operands
use Rattle.g_diagram.specs.Ports as ports
use Rattle.g_diagram_ports.specs.declared.push.Sides.{Sides}

abbrev pub line_by : Sides → (line : ℕ) → List operands.Operand → operands.Line
line_by s l ops = record { line = l; node = s.node; outside = s.outside; inside = s.inside.now; before = s.before.now; operands = ops }

-- the ports of a line, from an operand on
abbrev pub ports_by : Sides → (line k : ℕ) → List operands.Operand → List ports.Port
ports_by s l k ops = ports.ports_from (line_by s l []) k ops
