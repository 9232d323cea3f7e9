-- Types: a type may hold others while there are levels left.
use Rattle.std.specs.Prelude.{ℕ, zero, suc, Bool, true, false, List, [], ◌∷◌, Option, Some, None, nat_lt, if◌then◌else◌}
use Rattle.g_grammar.specs.Grammar.{Grammar, give, take, ◌>>=◌, nothing}
use Rattle.g_types.specs.declared.ty.Ty.{Ty}
use Rattle.g_types.specs.declared.ty.Ty.TheVariants as ty
use Rattle.g_tokens.specs.declared.token.Token.{Token}
use Rattle.g_tokens.specs.declared.token.Token.TheVariants as token
use Rattle.g_tokens.specs.declared.token.Mark.TheVariants as mark
use Rattle.g_listing_grammar.specs.declared.TypeWord.{TypeWord}
use Rattle.g_listing_grammar.specs.declared.TypeWord.TheVariants as type
use Rattle.g_listing_words.specs.Operations.{lookup}
use Rattle.g_listing_grammar.specs.Words.{type_words, close_bracket, close_paren, open_paren, close_brace, comma_or_brace}

abbrev pub is_above : ℕ → Bool
is_above n = nat_lt 0 n

abbrev pub holds_others : TypeWord → Bool
holds_others (type.Number r) = false
holds_others type.Truth = false
holds_others type.Text = false
holds_others _ = true

-- the word, unless it holds others and there is no level for them
abbrev pub fitting : ℕ → Option TypeWord → Option TypeWord
fitting n None = None
fitting n (Some w) = if holds_others w then (if is_above n then Some w else None) else Some w

abbrev pub type_word : Bool → Token → Option TypeWord
type_word arrays (token.Word w) = lookup type_words w
type_word arrays (token.Mark mark.OpenBracket) = if arrays then Some type.Array else None
type_word arrays (token.Mark mark.OpenBrace) = Some type.Cluster
type_word arrays _ = None

-- how a type begins that has so many levels inside it, and may be an array or not
abbrev pub type_first : ℕ → Bool → Token → Option TypeWord
type_first n arrays t = fitting n (type_word arrays t)

-- one more and the rest after it, or none
abbrev pub more_others : {A : Type 0} → Grammar Token A → Grammar Token (List A) → Bool → Grammar Token (List A)
more_others g rest true = do
  x ← g
  xs ← rest
  give (x ∷ xs)
more_others g rest false = give []

-- the further parts of a cluster of at most so many, up to the brace
abbrev pub others : {A : Type 0} → Grammar Token A → ℕ → Grammar Token (List A)
others g zero = do
  x ← take close_brace
  give []
others g (suc n) = take comma_or_brace >>= more_others g (others g n)

-- what stands between the parentheses
abbrev pub in_parens : {A B : Type 0} → (A → B) → Grammar Token A → Grammar Token B
in_parens f g = do
  x ← take open_paren
  a ← g
  y ← take close_paren
  give (f a)

-- a type after its first token, where the types inside it are these, arrays or not
abbrev pub type_rest : (Bool → Grammar Token Ty) → TypeWord → Grammar Token Ty
type_rest inside (type.Number r) = give (ty.Num r)
type_rest inside type.Truth = give ty.Bool
type_rest inside type.Text = give ty.Str
type_rest inside type.Array = do
  t ← inside false
  x ← take close_bracket
  give (ty.Arr t)
type_rest inside type.Cluster = do
  t ← inside true
  ts ← others (inside true) 63
  give (ty.Cluster (t ∷ ts))
type_rest inside type.Queue = in_parens (λ (t : Ty). ty.QueueRef t) (inside true)
type_rest inside type.Ref = in_parens (λ (t : Ty). ty.ValueRef t) (inside true)

-- a type of at most so many levels
unfoldable pub types : ℕ → Bool → Grammar Token Ty
types zero arrays = nothing
types (suc n) arrays = take (type_first n arrays) >>= type_rest (types n)
