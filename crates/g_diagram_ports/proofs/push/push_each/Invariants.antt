use Rattle.std.proofs.Common.{◌≡◌, ◌++◌, [], map, take}
use Rattle.std.specs.Prelude.{None}
use Rattle.g_diagram.specs.Ports.{port}
use Rattle.g_diagram_ports.specs.Seen.{seen, seen_operand}
use Rattle.g_diagram_ports.specs.Sides.{line_by}
use Rattle.g_diagram_ports.proofs.push.push_each.Given as goal

abbrev pub invariant-loop-diagram : goal.invariant-loop-diagram
invariant-loop-diagram l =
    map seen l.ports.items ≡ map seen l.fn.ports.items ++ map (port (line_by l.sides l.line []) l.operand (seen_operand l.form) None) (take l.diagram-index l.diagrams)
