use Rattle.std.proofs.Common.{◌≡◌, ◌++◌, drop}
use Rattle.g_border.specs.Loops.{kept_registers}
use Rattle.g_program.specs.Kept.{kept_places}
use Rattle.g_program.proofs.kept.push_border.Given as goal

abbrev pub invariant-loop-tunnel : goal.invariant-loop-tunnel
invariant-loop-tunnel l =
    l.kept.items ++ kept_places l.space (kept_registers l.line (drop l.tunnel-index l.lines)) ≡ l.fn.kept.items ++ kept_places l.space (kept_registers l.first l.lines)
