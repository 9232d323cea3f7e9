-- Inner: words taken together from the last to the first.
use Rattle.std.specs.Prelude.{ℕ, List, [], ◌∷◌}
use Rattle.g_prims_edits.specs.Words.{on_words}
use Rattle.g_prims_edits.specs.declared.words.Operator.{Operator}

abbrev pub accumulated_words : Operator → ℕ → List ℕ → ℕ
accumulated_words o n [] = n
accumulated_words o n (w ∷ ws) = on_words o w (accumulated_words o n ws)
