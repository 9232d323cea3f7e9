-- Literals: at most so many levels, and no array right inside an array.
use Rattle.std.specs.Prelude.{ℕ, zero, suc, ◌-◌, Bool, true, false, List, [], ◌∷◌, Option, Some, None, codes, ◌⊎◌, if◌then◌else◌}
use Rattle.std.proofs.Common.{inl, inr}
use Rattle.g_grammar.specs.Grammar.{Grammar, give, take, loop, ◌>>=◌, nothing, or_else}
use Rattle.g_diagram.specs.declared.panel.Lit.{Lit}
use Rattle.g_diagram.specs.declared.panel.Lit.TheVariants as lit
use Rattle.g_tokens.specs.declared.token.Token.{Token}
use Rattle.g_tokens.specs.declared.token.Token.TheVariants as token
use Rattle.g_tokens.specs.declared.token.Mark.TheVariants as mark
use Rattle.g_listing_words.specs.Operations.{lookup}
use Rattle.g_listing_grammar.specs.declared.LiteralFirst.{LiteralFirst}
use Rattle.g_listing_grammar.specs.declared.LiteralFirst.TheVariants as begin
use Rattle.g_listing_grammar.specs.Words.{close_bracket, comma_or_bracket}
use Rattle.g_listing_grammar.specs.Types.{others, is_above}

abbrev pub literal_words : List (List ℕ × LiteralFirst)
literal_words = (codes "TRUE", begin.Whole (lit.Truth true)) ∷ (codes "FALSE", begin.Whole (lit.Truth false)) ∷ (codes "null", begin.Whole lit.Null) ∷ []

-- how a literal begins, which may be an array or not
abbrev pub literal_word : Bool → Token → Option LiteralFirst
literal_word arrays (token.Number k) = Some (begin.Whole (lit.Number k))
literal_word arrays (token.Text bytes) = Some (begin.Whole (lit.Text bytes))
literal_word arrays (token.Word w) = lookup literal_words w
literal_word arrays (token.Mark mark.OpenBracket) = if arrays then Some begin.Array else None
literal_word arrays (token.Mark mark.OpenBrace) = Some begin.Cluster
literal_word arrays _ = None

-- nothing where no level is left, and no cluster where none is left inside it
abbrev pub fitting_literal : ℕ → Option LiteralFirst → Option LiteralFirst
fitting_literal n None = None
fitting_literal n (Some (begin.Whole l)) = if is_above n then Some (begin.Whole l) else None
fitting_literal n (Some begin.Array) = if is_above n then Some begin.Array else None
fitting_literal n (Some begin.Cluster) = if is_above (n - 1) then Some begin.Cluster else None

-- how a literal of at most so many levels begins
abbrev pub literal_first : ℕ → Bool → Token → Option LiteralFirst
literal_first n arrays t = fitting_literal n (literal_word arrays t)

-- a comma and one more, or the bracket
abbrev pub next_item : Grammar Token Lit → Bool → Grammar Token (Lit ⊎ Unit {0})
next_item g true = do
  x ← g
  give (inl x)
next_item g false = give (inr tt)

abbrev pub array_rest : (LiteralFirst → Grammar Token Lit) → Grammar Token Lit → (LiteralFirst ⊎ Unit {0}) → Grammar Token Lit
array_rest rest g (inr end) = give (lit.Array [])
array_rest rest g (inl c) = do
  x ← rest c
  xs ← loop comma_or_bracket (next_item g)
  give (lit.Array (x ∷ xs.0))

-- a literal after its first token, where those inside it begin and go on so
abbrev pub literal_rest_of : (Bool → Token → Option LiteralFirst) → (LiteralFirst → Grammar Token Lit) → LiteralFirst → Grammar Token Lit
literal_rest_of inside rest (begin.Whole l) = give l
literal_rest_of inside rest begin.Array = take (or_else (inside false) close_bracket) >>= array_rest rest (take (inside false) >>= rest)
literal_rest_of inside rest begin.Cluster = do
  x ← take (inside true) >>= rest
  xs ← others (take (inside true) >>= rest) 63
  give (lit.Cluster (x ∷ xs))

-- a literal of at most so many levels after its first token
unfoldable pub literal_rest : ℕ → LiteralFirst → Grammar Token Lit
literal_rest zero c = nothing
literal_rest (suc n) c = literal_rest_of (literal_first n) (literal_rest n) c

abbrev pub literals : ℕ → Bool → Grammar Token Lit
literals n arrays = take (literal_first n arrays) >>= literal_rest n
