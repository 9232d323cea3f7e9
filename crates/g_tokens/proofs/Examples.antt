-- Tokens by computation.
use Rattle.std.proofs.Common.{◌≡◌, ℕ, [], ◌∷◌, ◌++◌, refl}
use Rattle.std.specs.Prelude.{codes, pos, negsuc}
use Rattle.g_tokens.specs.declared.token.Token.TheVariants as token
use Rattle.g_tokens.specs.declared.token.Mark.TheVariants as mark
use Rattle.g_tokens.specs.declared.token.Spot.{Spot}
use Rattle.g_tokens.specs.Tokens.{front, longest, characters, lexemes, lines, placed_tokens}

-- the longest token is taken
arrow : front (codes "->") ≡ (token.Mark mark.Arrow, 2)
unfolding longest characters
arrow = refl

negative : front (codes "-7_") ≡ (token.Number (negsuc 6), 2)
unfolding longest characters
negative = refl

-- an underline begins no word
underline : front (codes "_ab") ≡ (token.Mark mark.Unwired, 1)
unfolding longest characters
underline = refl

-- what stands after a backslash, and a comment's sign inside a text
text : front (34 ∷ 35 ∷ 92 ∷ 110 ∷ 34 ∷ []) ≡ (token.Text (35 ∷ 10 ∷ []), 5)
unfolding longest characters
text = refl

-- an unclosed text is bad from its quote on
unclosed : front (34 ∷ 97 ∷ []) ≡ (token.Bad, 2)
unfolding longest characters
unclosed = refl

at : ℕ → ℕ → Spot
at line column = record { line = line; column = column }

-- EOL stands just after its line's last token, a line without a token has none, and END stands after the last byte, a carriage return included
places : placed_tokens (codes "a #" ++ (10 ∷ 10 ∷ codes " 5") ++ 13 ∷ []) ≡ (token.Word (codes "a"), at 1 1) ∷ (token.Eol, at 1 2) ∷ (token.Number (pos 5), at 3 2) ∷ (token.Eol, at 3 3) ∷ (token.End, at 3 4) ∷ []
unfolding longest characters lexemes lines at
places = refl
