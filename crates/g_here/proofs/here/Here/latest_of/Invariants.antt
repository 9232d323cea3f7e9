use Rattle.std.proofs.Common.{◌≡◌, ◌-◌, length, take}
use Rattle.g_border.specs.Lines.{latest}
use Rattle.g_frames.specs.Effects as effects
use Rattle.g_frames.specs.Structures.{readers_of}
use Rattle.g_here.specs.Here.{IsHere}
use Rattle.g_here.proofs.here.Here.latest_of.Given as goal

abbrev pub invariant-loop-after : goal.invariant-loop-after
invariant-loop-after l = (h : effects.Here) → IsHere l.self h → latest (readers_of h (take (length l.numbers - l.after) l.numbers)) ≡ latest (readers_of h l.numbers)
