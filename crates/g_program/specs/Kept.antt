-- Inner: kept registers by their data spaces.
use Rattle.std.specs.Prelude.{ℕ, List, map}
use Rattle.g_types.specs.declared.ty.Ty.{Ty}
use Rattle.g_frames.specs.declared.program.KeptPlace.{KeptPlace}

abbrev pub kept_places : (space : ℕ) → List (ℕ × Ty) → List KeptPlace
kept_places space ks = map (λ k. record { space = space; line = k.0; content = k.1 }) ks
