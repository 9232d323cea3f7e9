-- Which tokens spell which values, computed.
use Rattle.std.proofs.Common.{◌≡◌, pos, negsuc, true, [], ◌∷◌, codes, refl}
use Rattle.std.specs.Prelude.{Ok, Err}
use Rattle.g_grammar.specs.Grammar.{read, all_read}
use Rattle.g_tokens.specs.declared.token.Token.TheVariants as token
use Rattle.g_tokens.specs.declared.token.Mark.TheVariants as mark
use Rattle.g_tokens.specs.Tokens.{lexemes, longest, characters}
use Rattle.g_types.specs.declared.rep.Rep.TheVariants.{I8, U8}
use Rattle.g_values.specs.declared.value.Value.TheVariants as value
use Rattle.g_values.specs.Number.{num_of}
use Rattle.g_valtext.specs.Forms.{Number, Truth, Text, Parts, none, also}
use Rattle.g_valtext.specs.Spellings.{of_form, rest_of, grammars, tokens, places}

-- a number counts by its value, and spaces and tabs may stand round it
zeros : all_read (read (of_form (Number U8)) (tokens (codes " 007"))) ≡ Ok (value.Num (num_of U8 (pos 7)))
unfolding rest_of grammars lexemes longest characters
zeros = refl

-- a number out of the range of its type is refused itself
too_low : all_read (read (of_form (Number I8)) (tokens (codes "-129"))) ≡ Err (token.Number (negsuc 128) ∷ [])
unfolding rest_of grammars lexemes longest characters
too_low = refl

parts : all_read (read (of_form (Parts (also Truth (also Text none)))) (tokens (codes "{TRUE,\"\\x41\"}"))) ≡ Ok (value.Cluster (value.Bool true ∷ value.Str (codes "A") ∷ []))
unfolding rest_of grammars lexemes longest characters
parts = refl

-- where a part is missing the brace is refused, which stands at byte 5
missing : all_read (read (of_form (Parts (also Truth (also Text none)))) (tokens (codes "{TRUE}"))) ≡ Err (token.Mark mark.CloseBrace ∷ [])
unfolding rest_of grammars lexemes longest characters
missing = refl

stands : places (codes "{TRUE}") ≡ 0 ∷ 1 ∷ 5 ∷ []
unfolding lexemes longest characters
stands = refl
