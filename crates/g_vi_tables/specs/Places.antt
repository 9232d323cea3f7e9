-- Places in lists.
use Rattle.std.specs.Prelude.{ℕ, suc, ◌==◌, Bool, List, [], ◌∷◌, Option, Some, None, if◌then◌else◌}
use Rattle.std.specs.Option.{option_map}
use Rattle.g_diagram.specs.Lines.{Entry}
use Rattle.g_border.specs.declared.place.WireSource.{WireSource}
use Rattle.g_border.specs.Readers.{same_source}

-- the place, from 0, of the first item that a test finds
abbrev pub first_place : {A : Type 0} → (A → Bool) → List A → Option ℕ
first_place test [] = None
first_place test (x ∷ xs) = if test x then Some 0 else option_map suc (first_place test xs)

-- the place of the node on a line
abbrev pub node_place : (line : ℕ) → List Entry → Option ℕ
node_place l es = first_place (λ e. e.line == l) es

-- the place of a source
abbrev pub source_place : WireSource → List WireSource → Option ℕ
source_place p qs = first_place (λ q. same_source q p) qs
