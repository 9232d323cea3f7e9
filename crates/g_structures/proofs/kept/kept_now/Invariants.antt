use Rattle.std.proofs.Common.{◌≡◌, ◌++◌, drop}
use Rattle.g_border.specs.Loops.{kept_registers}
use Rattle.g_frames.specs.Effects as effects
use Rattle.g_frames.specs.Structures as spec
use Rattle.g_here.specs.Here.{IsHere}
use Rattle.g_structures.proofs.kept.kept_now.Given as goal

abbrev pub invariant-loop-tunnel : goal.invariant-loop-tunnel
invariant-loop-tunnel l =
    (h : effects.Here) → IsHere l.here h → l.kept ++ spec.kept_now h (kept_registers l.line (drop l.tunnel-index l.lines)) ≡ spec.kept_now h (kept_registers l.first l.lines)
