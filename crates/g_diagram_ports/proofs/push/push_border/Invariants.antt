use Rattle.std.proofs.Common.{◌≡◌, ◌++◌, map, drop}
use Rattle.g_diagram.specs.Operands.{border_lines}
use Rattle.g_diagram.specs.Ports.{ports_in}
use Rattle.g_diagram_table.specs.Seen as table
use Rattle.g_diagram_ports.specs.Seen.{seen, form_of}
use Rattle.g_diagram_ports.proofs.push.push_border.Given as goal

abbrev pub invariant-loop-tunnel : goal.invariant-loop-tunnel
invariant-loop-tunnel l =
    map seen l.ports.items ++ ports_in (border_lines (table.seen l.entry) l.inside l.before (form_of l.in_case) l.line (drop l.tunnel-index l.lines))
    ≡ map seen l.fn.ports.items ++ ports_in (border_lines (table.seen l.entry) l.inside l.before (form_of l.in_case) l.first l.lines)
