-- What the firings of a run need.
use Rattle.std.specs.Prelude.{◌≡◌, ℕ, List, Some}
use Rattle.g_values.specs.declared.value.Value.{Value}
use Rattle.g_frames.specs.declared.firing.Firing.{Firing}
use Rattle.g_frames.specs.Program.{Program}
use Rattle.g_frames.specs.State.{FireState}
use Rattle.g_frames.specs.Run.{after, after_from}
use Rattle.g_needs.specs.Firings.{HasNeeds}
use Rattle.g_needs.specs.Starts.{StartNeeds}

-- each node of each frame has what its firing needs
abbrev pub HasAllNeeds : Program → FireState → Type 0
HasAllNeeds p s = (frame line : ℕ) → HasNeeds p s frame line

-- also after whatever firings
abbrev pub Lasts : Program → FireState → Type 0
Lasts p s = (trace : List Firing) (t : FireState) → after_from p trace s ≡ Some t → HasAllNeeds p t

-- a run with these controls and this limit can begin, and each state that it comes to has what its firings need
pub record RunNeeds (p : Program) (controls : List Value) (limit : ℕ) : Type 0 where
  pub start : StartNeeds p
  pub firings : (trace : List Firing) (s : FireState) → after p controls limit trace ≡ Some s → (frame line : ℕ) → HasNeeds p s frame line
