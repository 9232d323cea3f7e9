use Rattle.std.proofs.Common.{◌≡◌, ◌++◌, drop}
use Rattle.g_crossing.specs.Kept.{inside_from}
use Rattle.g_crossing.proofs.inside.push_lines.Given as goal

abbrev pub invariant-loop-tunnel : goal.invariant-loop-tunnel
invariant-loop-tunnel l = l.given ++ inside_from l.entering l.register l.line (drop l.tunnel-index l.lines) ≡ l.fn.given ++ inside_from l.entering 0 l.first l.lines
