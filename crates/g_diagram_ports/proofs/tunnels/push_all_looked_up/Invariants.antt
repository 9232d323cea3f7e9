use Rattle.std.proofs.Common.{◌≡◌, ◌++◌, map, drop}
use Rattle.g_diagram_ports.specs.Branches.{look_in}
use Rattle.g_diagram_ports.specs.Seen.{seen}
use Rattle.g_diagram_ports.specs.Tunnels.{all_looked_up}
use Rattle.g_diagram_ports.proofs.tunnels.push_all_looked_up.Given as goal

abbrev pub invariant-loop-port : goal.invariant-loop-port
invariant-loop-port l =
    map seen l.ports.items ++ all_looked_up (look_in l.known) (map seen (drop l.port-index l.outer)) ≡ map seen l.fn.ports.items ++ all_looked_up (look_in l.known) (map seen l.outer)
