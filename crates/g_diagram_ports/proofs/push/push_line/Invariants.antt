use Rattle.std.proofs.Common.{◌≡◌, ◌++◌, map, drop}
use Rattle.g_diagram_ports.specs.Seen.{seen, seen_operand}
use Rattle.g_diagram_ports.specs.Sides.{ports_by}
use Rattle.g_diagram_ports.proofs.push.push_line.Given as goal

abbrev pub invariant-loop-form : goal.invariant-loop-form
invariant-loop-form l =
    map seen l.ports.items ++ ports_by l.sides l.line l.operand (map seen_operand (drop l.form-index l.operands)) ≡ map seen l.fn.ports.items ++ ports_by l.sides l.line 1 (map seen_operand l.operands)
