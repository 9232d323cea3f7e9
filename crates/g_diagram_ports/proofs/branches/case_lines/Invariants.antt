use Rattle.std.proofs.Common.{◌≡◌, ℕ, List, drop}
use Rattle.std.specs.Option.{option_or}
use Rattle.g_diagram_ports.specs.Branches.{line_in}
use Rattle.g_diagram_ports.specs.Tunnels.{named_line}
use Rattle.g_diagram_ports.proofs.branches.case_lines.Given as goal

abbrev pub invariant-loop-tunnel : goal.invariant-loop-tunnel
invariant-loop-tunnel l = (name : List ℕ) → option_or (line_in l.lines name) (named_line l.line (drop l.tunnel-index l.tunnels) name) ≡ named_line l.first l.tunnels name
