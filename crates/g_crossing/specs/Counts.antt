-- Inner: the least of some numbers, gone through one after another.
use Rattle.std.specs.Prelude.{ℕ, List, ◌∷◌, Option, Some, None}
use Rattle.g_border.specs.Loops.{least}

-- the least of the least so far, if there is one, and of more
abbrev pub least_with : Option ℕ → List ℕ → ℕ
least_with None ns = least ns
least_with (Some n) ns = least (n ∷ ns)
