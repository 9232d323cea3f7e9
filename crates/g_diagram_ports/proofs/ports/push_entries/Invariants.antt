use Rattle.std.proofs.Common.{◌≡◌, ◌++◌, map, drop}
use Rattle.g_diagram.specs.Ports.{ports_in}
use Rattle.g_diagram_table.specs.Seen as table
use Rattle.g_diagram_ports.specs.Seen.{seen}
use Rattle.g_diagram_ports.specs.Callees.{freedom_by}
use Rattle.g_diagram_ports.specs.Tunnels.{all_outer_lines}
use Rattle.g_diagram_ports.proofs.ports.push_entries.Given as goal

abbrev pub invariant-loop-entry : goal.invariant-loop-entry
invariant-loop-entry l =
    map seen l.ports.items ++ ports_in (all_outer_lines (freedom_by l.callees) (map table.seen (drop l.entry-index l.entries)))
    ≡ map seen l.fn.ports.items ++ ports_in (all_outer_lines (freedom_by l.callees) (map table.seen l.entries))
