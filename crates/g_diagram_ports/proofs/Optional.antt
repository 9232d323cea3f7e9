-- Whether an input of a call may be left unwired.
use Rattle.std.proofs.Common.{◌≡◌, ℕ, zero, suc, Bool, List, [], ◌∷◌, refl}
use Rattle.std.specs.Prelude.{slice_get}
use Rattle.g_diagram.specs.Ports.{is_optional}
use Rattle.g_diagram_ports.specs.Callees.{is_unneeded}

pub optional_at : (flags : List Bool) (k : ℕ) → is_optional flags k ≡ is_unneeded (slice_get flags k)
optional_at [] k = refl
optional_at (r ∷ flags) zero = refl
optional_at (r ∷ flags) (suc k) = optional_at flags k
