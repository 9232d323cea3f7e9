use Rattle.std.proofs.Common.{◌≡◌, ◌++◌, ◌∷◌, ℕ, List, drop}
use Rattle.g_values.specs.Text as values
use Rattle.g_print.proofs.literals.write_quoted.Given as goal

abbrev pub invariant-loop-byte : goal.invariant-loop-byte
invariant-loop-byte l = (rest : List ℕ) → l.page ++ (values.bytes_text (drop l.byte-index l.text) ++ rest) ≡ l.fn.page ++ (34 ∷ (values.bytes_text l.text ++ rest))
