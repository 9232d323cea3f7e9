-- A token with what makes it one that bytes can have.
use Rattle.std.proofs.Common.{◌≡◌, ℕ, true, List, [], ◌∷◌, length, map, refl, ap, ◌≤◌, arith}
use Rattle.std.specs.Prelude.{nat_le}
use Rattle.std.specs.List.{list_all}
use Rattle.std.proofs.lemmas.Bool.Decides.{nat_tests}
use Rattle.g_tokens.specs.declared.token.Token.{Token}
use Rattle.g_tokens.specs.Tokens.{is_letter, is_word_byte, begins}
use Rattle.g_print_laws.proofs.Lexing.{IsWord}
use Rattle.g_print_laws.proofs.Parts.{IsGood, AreGood}

abbrev pub Good : Type 0
Good = (t : Token) × IsGood t

abbrev pub token_of : Good → Token
token_of g = g.0

pub goods : (ts : List Token) → AreGood ts → (gs : List Good) × (map token_of gs ≡ ts)
goods [] h = ([], refl)
goods (t ∷ ts) h = let r = goods ts h.1 in ((t, h.0) ∷ r.0, ap (λ (l : List Token). t ∷ l) r.1)

pub are_good : (gs : List Good) → AreGood (map token_of gs)
are_good [] = tt
are_good (g ∷ gs) = (g.1, are_good gs)

short : (n : ℕ) → nat_le n 64 ≡ true → n ≤ 64
short n h = grind (arith, nat_tests)

pub good_word : (w : List ℕ) → begins is_letter w ≡ true → list_all is_word_byte w ≡ true → nat_le (length w) 64 ≡ true → IsWord w
good_word w letter all few = record { letter = letter; all = all; short = short (length w) few }
