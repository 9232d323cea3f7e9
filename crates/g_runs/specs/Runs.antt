-- What a run has done, and what a trace comes to.
use Rattle.std.specs.Prelude.{◌≡◌, ℕ, true, List, Option, Some, None}
use Rattle.g_values.specs.declared.value.Value.{Value}
use Rattle.g_frames.specs.declared.firing.Firing.{Firing}
use Rattle.g_frames.specs.declared.state.End.{End}
use Rattle.g_frames.specs.Program.{Program}
use Rattle.g_frames.specs.State.{FireState}
use Rattle.g_frames.specs.Fire.{can_fire, fire}
use Rattle.g_frames.specs.Run.{after, end_of, is_at_rest, IsAtRest}

-- a run from the start until nothing can fire
pub record HasRun (p : Program) (controls : List Value) (limit : ℕ) (trace : List Firing) (s : FireState) (end : End) : Type 0 where
  pub after_it : after p controls limit trace ≡ Some s
  pub rests : IsAtRest p s
  pub ends : end ≡ end_of p s

-- one more firing, or nothing can fire and the state stays
abbrev pub Goes : Program → FireState → Option Firing → FireState → Type 0
Goes p s None new = (is_at_rest p s ≡ true) × (new ≡ s)
Goes p s (Some x) new = (can_fire p s x ≡ true) × (new ≡ fire p s x)
