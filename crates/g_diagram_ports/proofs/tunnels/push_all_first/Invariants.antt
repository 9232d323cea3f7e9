use Rattle.std.proofs.Common.{◌≡◌, ◌++◌, map, drop}
use Rattle.g_diagram_table.specs.Seen as table
use Rattle.g_diagram_ports.specs.Seen.{seen}
use Rattle.g_diagram_ports.specs.Tunnels.{all_first_tunnels}
use Rattle.g_diagram_ports.proofs.tunnels.push_all_first.Given as goal

abbrev pub invariant-loop-entry : goal.invariant-loop-entry
invariant-loop-entry l =
    map seen l.ports.items ++ all_first_tunnels (map table.seen (drop l.entry-index l.entries)) ≡ map seen l.fn.ports.items ++ all_first_tunnels (map table.seen l.entries)
