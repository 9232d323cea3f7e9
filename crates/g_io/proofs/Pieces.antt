-- What a list is in pieces.
use Rattle.std.proofs.Common.{◌≡◌, ℕ, ◌+◌, ◌-◌, List, ◌++◌, length, take, drop, arith, length-drop, refl}
use Rattle.std.proofs.Math.Seq.{take-add}
use Rattle.std.proofs.lemmas.List.{take_all}

-- a front, and then a front of the rest
pub take-grown : (w n : ℕ) (xs : List ℕ) → take (w + n) xs ≡ take w xs ++ take n (take (length xs - w) (drop w xs))
take-grown w n xs = rw (take_all (length xs - w) (drop w xs) (omega (arith, length-drop w xs)), take-add) refl
