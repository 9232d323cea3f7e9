-- Inner: the place of an operand of a line, if there is one.
use Rattle.std.specs.Prelude.{ℕ, List, [], ◌∷◌, Option, Some, None}
use Rattle.g_border.specs.declared.place.WireSource.{WireSource}

abbrev pub at_operand : (line : ℕ) → Option ℕ → List WireSource
at_operand l None = []
at_operand l (Some k) = record { line = l; operand = k } ∷ []
