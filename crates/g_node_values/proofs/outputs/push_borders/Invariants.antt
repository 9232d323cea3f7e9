use Rattle.std.proofs.Common.{◌≡◌, ◌++◌, drop}
use Rattle.g_node_values.specs.Outputs.{borders_places}
use Rattle.g_node_values.proofs.outputs.push_borders.Given as goal

abbrev pub invariant-loop-tunnel : goal.invariant-loop-tunnel
invariant-loop-tunnel l = l.places.items ++ borders_places l.line (drop l.tunnel-index l.lines) ≡ l.fn.places.items ++ borders_places l.first l.lines
