use Rattle.std.proofs.Common.{◌≡◌, ◌++◌, drop}
use Rattle.g_border.specs.Lines as border
use Rattle.g_crossing.proofs.places.other_places.Given as goal

abbrev pub invariant-loop-tunnel : goal.invariant-loop-tunnel
invariant-loop-tunnel l = l.places ++ border.other_places l.line (drop l.tunnel-index l.lines) ≡ border.other_places l.first l.lines
