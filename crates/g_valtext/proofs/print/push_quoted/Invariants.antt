use Rattle.std.proofs.Common.{◌≡◌, [], ◌∷◌, ◌++◌, drop}
use Rattle.g_values.specs.Text.{bytes_text, quoted}
use Rattle.g_valtext.proofs.print.push_quoted.Given as goal

abbrev pub invariant-loop-byte : goal.invariant-loop-byte
invariant-loop-byte l = l.out.items ++ (bytes_text (drop l.byte-index l.text) ++ (34 ∷ [])) ≡ l.fn.out.items ++ quoted l.text
