-- Inner: the numbers of VIs by their names.
use Rattle.std.specs.Prelude.{ℕ, suc, List, [], ◌∷◌, if◌then◌else◌, Option, Some, None}
use Rattle.std.specs.Str.{bytes_eq}
use Rattle.g_diagram.specs.declared.hierarchy.Vi.{Vi}

-- the number of the first VI of a name, where the first of them all has the number k
abbrev pub first_number : (k : ℕ) → List Vi → (name : List ℕ) → Option ℕ
first_number k [] name = None
first_number k (vi ∷ vis) name = if bytes_eq vi.name name then Some k else first_number (suc k) vis name
