use Rattle.std.proofs.Common.{◌≡◌, ◌++◌, map, drop}
use Rattle.g_diagram_ports.specs.Seen.{seen}
use Rattle.g_diagram_ports.specs.Tunnels.{tunnels_in}
use Rattle.g_diagram_ports.proofs.tunnels.push_tunnels.Given as goal

abbrev pub invariant-loop-tunnel : goal.invariant-loop-tunnel
invariant-loop-tunnel l =
    map seen l.ports.items ++ tunnels_in l.diagram l.line (drop l.tunnel-index l.tunnels) ≡ map seen l.fn.ports.items ++ tunnels_in l.diagram l.first l.tunnels
