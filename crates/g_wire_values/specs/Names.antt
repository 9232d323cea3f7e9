-- Inner: the numbers of a diagram's sources by their names. Of two with one name the first counts.
use Rattle.std.specs.Prelude.{ℕ, List, [], ◌∷◌, Option, Some, None, bytes_eq, if◌then◌else◌}

abbrev pub Numbers : Type 0
Numbers = List (List ℕ × ℕ)

abbrev pub named : Numbers → (name : List ℕ) → Option ℕ
named [] q = None
named (e ∷ es) q = if bytes_eq q e.0 then Some e.1 else named es q

abbrev pub add_name : Numbers → (name : List ℕ) → (number : ℕ) → Numbers
add_name [] n k = (n, k) ∷ []
add_name (e ∷ es) n k = if bytes_eq n e.0 then e ∷ es else e ∷ add_name es n k
