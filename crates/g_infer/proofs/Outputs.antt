-- Types to outputs, one after another.
use Rattle.std.proofs.Common.{◌≡◌, ℕ, zero, suc, ◌+◌, List, [], ◌∷◌, ◌++◌, drop, refl, add-one}
use Rattle.std.specs.Prelude.{slice_get}
use Rattle.g_types.specs.declared.ty.Ty.{Ty}
use Rattle.g_diagram.specs.Lines.{Wire}
use Rattle.g_typing.specs.Typing.{given, given_each}

each_suc : (d k : ℕ) (w : Wire) (ws : List Wire) (ts : List Ty) → given_each d (w ∷ ws) (drop k ts) ≡ given d w (slice_get ts k) ++ given_each d ws (drop (suc k) ts)
each_suc d zero w ws [] = refl
each_suc d zero w ws (t ∷ ts) = refl
each_suc d (suc k) w ws [] = refl
each_suc d (suc k) w ws (t ∷ ts) = each_suc d k w ws ts

pub each_step : (d k : ℕ) (w : Wire) (ws : List Wire) (ts : List Ty) → given_each d (w ∷ ws) (drop k ts) ≡ given d w (slice_get ts k) ++ given_each d ws (drop (k + 1) ts)
each_step d k w ws ts = rw add-one (each_suc d k w ws ts)
