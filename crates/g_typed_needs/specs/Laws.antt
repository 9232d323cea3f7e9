-- Firings of typed states have what they need.
use Rattle.std.specs.Prelude.{ℕ}
use Rattle.g_frames.specs.Program.{Program}
use Rattle.g_frames.specs.State.{FireState}
use Rattle.g_typed_states.specs.Accepted.{IsAccepted}
use Rattle.g_typed_states.specs.Typed.{IsTypedState}
use Rattle.g_needs.specs.Firings.{HasNeeds}
use Rattle.g_needs.specs.Starts.{StartNeeds}

-- each node of a typed state has what its firing needs
abbrev pub FiringsHaveNeeds : Type 0
FiringsHaveNeeds = (p : Program) (s : FireState) (frame line : ℕ) → IsAccepted p → IsTypedState p s → HasNeeds p s frame line

-- and so has the start
abbrev pub StartsHaveNeeds : Type 0
StartsHaveNeeds = (p : Program) → IsAccepted p → StartNeeds p
