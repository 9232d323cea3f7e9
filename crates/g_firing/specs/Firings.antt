-- What a node's firing makes of a state, with whatever choice.
use Rattle.std.specs.Prelude.{◌≡◌, ℕ, true, false, Option, Some, None}
use Rattle.g_frames.specs.declared.firing.Firing.{Firing}
use Rattle.g_frames.specs.Program.{Program}
use Rattle.g_frames.specs.State.{FireState}
use Rattle.g_frames.specs.Fire.{can_fire, fire}
use Rattle.g_frames.specs.Run.{firing}

-- a node fired, or it can't fire with any choice, and the state stays
abbrev pub FiresNode : Program → FireState → (frame line : ℕ) → Option Firing → FireState → Type 0
FiresNode p s frame line None new = ((choice : Option ℕ) → can_fire p s (firing frame line choice) ≡ false) × (new ≡ s)
FiresNode p s frame line (Some x) new = (x.frame ≡ frame) × ((x.node ≡ line) × ((can_fire p s x ≡ true) × (new ≡ fire p s x)))
