-- The least of some numbers.
use Rattle.std.proofs.Common.{◌≡◌, ℕ, min, List, [], ◌∷◌, refl, arith}
use Rattle.g_border.specs.Loops.{least}

pub least_two : (n m : ℕ) (ns : List ℕ) → least (min n m ∷ ns) ≡ least (n ∷ m ∷ ns)
least_two n m [] = refl
least_two n m (p ∷ ps) = omega arith
