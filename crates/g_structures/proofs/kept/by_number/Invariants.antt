use Rattle.std.proofs.Common.{◌≡◌, ◌++◌, map}
use Rattle.g_frames.specs.Effects as effects
use Rattle.g_frames.specs.Program.{kept_number}
use Rattle.g_here.specs.Here.{IsHere}
use Rattle.g_structures.proofs.kept.by_number.Given as goal

abbrev pub invariant-loop-line : goal.invariant-loop-line
invariant-loop-line l =
    (h : effects.Here) → IsHere l.here h →
    l.keeps ++ map (λ r. (kept_number h.program h.frame.space r.0, r.1)) l.line-iterator.rest.items ≡ map (λ r. (kept_number h.program h.frame.space r.0, r.1)) l.fn.values
