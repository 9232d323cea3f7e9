use Rattle.std.proofs.Common.{◌≡◌, ◌++◌, map, drop}
use Rattle.g_frames.specs.Effects as effects
use Rattle.g_frames.specs.Structures.{readers_of}
use Rattle.g_wire_values.specs.Wires.{reader}
use Rattle.g_here.specs.Here.{IsHere}
use Rattle.g_here.proofs.here.Here.readers_of.Given as goal

abbrev pub invariant-loop-number : goal.invariant-loop-number
invariant-loop-number l = (h : effects.Here) → IsHere l.self h → map reader l.all.items ++ readers_of h (drop l.number-index l.numbers) ≡ readers_of h l.numbers
