-- What becomes of a plan in a state.
use Rattle.std.specs.Prelude.{◌≡◌, ℕ, Bool, true, false, Option, Some, None}
use Rattle.g_frames.specs.declared.firing.Firing.{Firing}
use Rattle.g_frames.specs.Program.{Program}
use Rattle.g_frames.specs.State.{FireState}
use Rattle.g_frames.specs.Effects.{Effect}
use Rattle.g_frames.specs.Fire.{applied}

-- it is done where it has an effect, else the state stays
abbrev pub CarriesOut : Program → FireState → Firing → Option Effect → (done : Bool) → FireState → Type 0
CarriesOut p s x None done new = (done ≡ false) × (new ≡ s)
CarriesOut p s x (Some e) done new = (done ≡ true) × (new ≡ applied p s x e)

-- a call enters by the clone that is answered, where a clone has an effect, else the state stays
abbrev pub EntersAny : Program → FireState → Firing → (ℕ → Option Effect) → (clone : Option ℕ) → FireState → Type 0
EntersAny p s x enters None new = ((k : ℕ) → enters k ≡ None) × (new ≡ s)
EntersAny p s x enters (Some k) new = (e : Effect) × ((enters k ≡ Some e) × (new ≡ applied p s (record x { choice = Some k }) e))
