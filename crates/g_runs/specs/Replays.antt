-- What a trace comes to.
use Rattle.std.specs.Prelude.{◌≡◌, ℕ, List, Some}
use Rattle.g_values.specs.declared.value.Value.{Value}
use Rattle.g_frames.specs.declared.firing.Firing.{Firing}
use Rattle.g_frames.specs.Program.{Program}
use Rattle.g_frames.specs.State.{start}
use Rattle.g_frames.specs.Run.{after, first_refused}
use Rattle.g_runs.specs.declared.replayed.Replayed.{Replayed}
use Rattle.g_runs.specs.declared.replayed.Replayed.TheVariants.{Legal, Illegal}

-- the state after the firings, or the place of the first that can't be done in its turn
abbrev pub Replays : Program → (controls : List Value) → (limit : ℕ) → List Firing → Replayed → Type 0
Replays p controls limit trace (Legal s) = after p controls limit trace ≡ Some s
Replays p controls limit trace (Illegal k) = first_refused p 0 trace (start p controls limit) ≡ Some k
