use Rattle.std.proofs.Common.{◌≡◌, drop}
use Rattle.g_border.specs.Lines as border
use Rattle.g_crossing.proofs.places.reference_in.Given as goal

abbrev pub invariant-loop-tunnel : goal.invariant-loop-tunnel
invariant-loop-tunnel l = border.reference_in l.line (drop l.tunnel-index l.lines) ≡ border.reference_in l.first l.lines
