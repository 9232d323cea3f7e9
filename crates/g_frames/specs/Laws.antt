-- What holds of every run of the firing machine.
use Rattle.std.specs.Prelude.{◌≡◌, ◌↔◌, ◌≤◌, ℕ, true, List, ◌++◌, Some, None, slice_get}
use Rattle.std.specs.Option.{option_and_then}
use Rattle.g_values.specs.declared.value.Value.{Value}
use Rattle.g_frames.specs.declared.firing.Firing.{Firing}
use Rattle.g_frames.specs.declared.state.Frame.{Frame}
use Rattle.g_frames.specs.Program.{Program}
use Rattle.g_frames.specs.State.{FireState}
use Rattle.g_frames.specs.Fire.{fire}
use Rattle.g_frames.specs.declared.state.End.TheVariants.{Spent}
use Rattle.g_frames.specs.Run.{after_from, first_refused, is_at_rest, IsAtRest, end_of, IsReached}

-- the state after two traces, one after the other
abbrev pub Composes : Type 0
Composes = (p : Program) (xs ys : List Firing) (s : FireState) → after_from p (xs ++ ys) s ≡ option_and_then (after_from p ys) (after_from p xs s)

-- the first refused firing is there exactly where a trace isn't allowed
abbrev pub RefusesExactly : Type 0
RefusesExactly = (p : Program) (k : ℕ) (xs : List Firing) (s : FireState) → (first_refused p k xs s ≡ None) ↔ ((t : FireState) × (after_from p xs s ≡ Some t))

-- the same frame, in which firings were done: each value that stood stands
pub record Continues (f g : Frame) : Type 0 where
  pub vi : g.vi ≡ f.vi
  pub space : g.space ≡ f.space
  pub diagram : g.diagram ≡ f.diagram
  pub opener : g.opener ≡ f.opener
  pub iteration : g.iteration ≡ f.iteration
  pub values : (k : ℕ) (v : Value) → slice_get f.values k ≡ Some (Some v) → slice_get g.values k ≡ Some (Some v)

-- no frame is closed, and a value never changes
abbrev pub FramesStay : Type 0
FramesStay =
    (p : Program) (s : FireState) (x : Firing) (k : ℕ) (f : Frame) → slice_get s.frames k ≡ Some f
    → (g : Frame) × (slice_get (fire p s x).frames k ≡ Some g) × Continues f g

-- the test of rest tells whether no firing whatever can fire
abbrev pub RestsExactly : Type 0
RestsExactly = (p : Program) (s : FireState) → (is_at_rest p s ≡ true) ↔ IsAtRest p s

-- the limit stays the same, and no run begins more iterations
abbrev pub KeepsLimit : Type 0
KeepsLimit = (p : Program) (limit : ℕ) (s : FireState) → IsReached p limit s → (s.limit ≡ limit) × (s.begun ≤ limit)

-- a run that ended for want of iterations began all that it may
abbrev pub SpendsAll : Type 0
SpendsAll = (p : Program) (limit : ℕ) (s : FireState) → IsReached p limit s → end_of p s ≡ Spent → s.begun ≡ limit
