-- The grammar of the texts of values: which tokens spell which value of a type. A number is within the range of its type; an array has no
-- more elements and a text no more bytes than the limit; of references only the null reference is spelled.
use Rattle.std.specs.Prelude.{◌≡◌, ℕ, zero, suc, ◌-◌, ℤ, pos, neg_ℤ, int_le, nat_le, Bool, true, false, ◌&&◌, List, [], ◌∷◌, map, length, Option, Some, None, codes, ◌⊎◌, if◌then◌else◌}
use Rattle.std.specs.List.{slice_index_or}
use Rattle.std.specs.Option.{option_map}
use Rattle.std.specs.Str.{bytes_eq}
use Rattle.std.proofs.Common.{inl, inr}
use Rattle.g_grammar.specs.Grammar.{Grammar, give, take, Has, IsRefused, or_else, ◌>>=◌}
use Rattle.g_tokens.specs.Tokens.{lexemes}
use Rattle.g_tokens.specs.declared.token.Token.{Token}
use Rattle.g_tokens.specs.declared.token.Token.TheVariants as token
use Rattle.g_tokens.specs.declared.token.Mark.TheVariants as mark
use Rattle.g_types.specs.declared.rep.Rep.{Rep}
use Rattle.g_types.specs.declared.ty.Ty.{Ty}
use Rattle.g_types.specs.Rep.{size, half}
use Rattle.g_values.specs.declared.value.Value.{Value}
use Rattle.g_values.specs.declared.value.Value.TheVariants as value
use Rattle.g_values.specs.Number.{num_of}
use Rattle.g_values.specs.Proper.{most}
use Rattle.g_valtext.specs.Forms.{Form, Forms, Number, Truth, Text, Numbers, Items, Parts, Null, none, also, form}

-- ---- single tokens

abbrev pub is_within : Rep → ℤ → Bool
is_within r n = int_le (neg_ℤ (pos (half r))) n && int_le n (pos (size r - half r - 1))

abbrev pub number_within : Rep → Token → Option ℤ
number_within r (token.Number n) = if is_within r n then Some n else None
number_within r _ = None

abbrev pub truth_of : List ℕ → Option Bool
truth_of w = if bytes_eq w (codes "TRUE") then Some true else (if bytes_eq w (codes "FALSE") then Some false else None)

abbrev pub truth : Token → Option Bool
truth (token.Word w) = truth_of w
truth _ = None

abbrev pub text_within : Token → Option (List ℕ)
text_within (token.Text bytes) = if nat_le (length bytes) most then Some bytes else None
text_within _ = None

abbrev pub null : Token → Option (Unit {0})
null (token.Word w) = if bytes_eq w (codes "null") then Some tt else None
null _ = None

abbrev pub comma : Token → Option (Unit {0})
comma (token.Mark mark.Comma) = Some tt
comma _ = None

abbrev pub open_bracket : Token → Option (Unit {0})
open_bracket (token.Mark mark.OpenBracket) = Some tt
open_bracket _ = None

abbrev pub close_bracket : Token → Option (Unit {0})
close_bracket (token.Mark mark.CloseBracket) = Some tt
close_bracket _ = None

abbrev pub open_brace : Token → Option (Unit {0})
open_brace (token.Mark mark.OpenBrace) = Some tt
open_brace _ = None

abbrev pub close_brace : Token → Option (Unit {0})
close_brace (token.Mark mark.CloseBrace) = Some tt
close_brace _ = None

-- a comma, and that one more follows; or the bracket, and that none does
abbrev pub comma_or_bracket : Token → Option Bool
comma_or_bracket (token.Mark mark.Comma) = Some true
comma_or_bracket (token.Mark mark.CloseBracket) = Some false
comma_or_bracket _ = None

-- ---- arrays

abbrev pub turn_rest : {A : Type 0} → Grammar Token A → Bool → Grammar Token (Option A)
turn_rest g true = do
  x ← g
  give (Some x)
turn_rest g false = give None

-- a comma and one more item, or the bracket
abbrev pub turn : {A : Type 0} → Grammar Token A → Grammar Token (Option A)
turn g = take comma_or_bracket >>= turn_rest g

abbrev pub after_turn : {A : Type 0} → Grammar Token (List A) → Option A → Grammar Token (List A)
after_turn rest None = give []
after_turn rest (Some x) = do
  xs ← rest
  give (x ∷ xs)

-- at most so many further items, up to the bracket
unfoldable pub further : {A : Type 0} → Grammar Token A → ℕ → Grammar Token (List A)
further g zero = do
  end ← take close_bracket
  give []
further g (suc n) = turn g >>= after_turn (further g n)

abbrev pub from_first : {A C : Type 0} → (C → Grammar Token A) → Grammar Token (List A) → (Unit {0} ⊎ C) → Grammar Token (List A)
from_first rest more (inl end) = give []
from_first rest more (inr c) = do
  x ← rest c
  xs ← more
  give (x ∷ xs)

-- how many elements an array has beside its first
abbrev pub most_further : ℕ
most_further = 4194303

-- an array after its bracket, whose items begin and go on so
abbrev pub array_rest : {A C : Type 0} → (Token → Option C) → (C → Grammar Token A) → Grammar Token (List A)
array_rest first rest = take (or_else close_bracket first) >>= from_first rest (further (take first >>= rest) most_further)

abbrev pub number : Rep → Grammar Token ℤ
number r = take (number_within r) >>= (λ n. give n)

-- ---- values

-- what the first token of a value says
abbrev pub First : Form → Type 0
First (Number r) = Value
First Truth = Value
First Text = Value
First (Null v) = Value
First (Numbers r) = Unit {0}
First (Items t f) = Unit {0}
First (Parts fs) = Unit {0}

abbrev pub first_of : (f : Form) → Token → Option (First f)
first_of (Number r) t = option_map (λ n. value.Num (num_of r n)) (number_within r t)
first_of Truth t = option_map (λ b. value.Bool b) (truth t)
first_of Text t = option_map (λ bytes. value.Str bytes) (text_within t)
first_of (Null v) t = option_map (λ u. v) (null t)
first_of (Numbers r) t = open_bracket t
first_of (Items ty f) t = open_bracket t
first_of (Parts fs) t = open_brace t

-- a comma and one more part of a cluster
abbrev pub part : Grammar Token Value → Grammar Token Value
part g = do
  next ← take comma
  g

-- the further parts, up to the brace
abbrev pub parts_after : List (Grammar Token Value) → Grammar Token (List Value)
parts_after [] = do
  end ← take close_brace
  give []
parts_after (g ∷ gs) = do
  v ← part g
  vs ← parts_after gs
  give (v ∷ vs)

abbrev pub parts : List (Grammar Token Value) → Grammar Token (List Value)
parts [] = do
  end ← take close_brace
  give []
parts (g ∷ gs) = do
  v ← g
  vs ← parts_after gs
  give (v ∷ vs)

unfoldable mutual
  -- a value after its first token
  pub rest_of : (f : Form) → First f → Grammar Token Value
  rest_of (Number r) v = give v
  rest_of Truth v = give v
  rest_of Text v = give v
  rest_of (Null v) w = give w
  rest_of (Numbers r) u = do
    all ← array_rest (number_within r) (λ n. give n)
    give (value.Nums (record { rep = r; all = all }))
  rest_of (Items t f) u = do
    items ← array_rest (first_of f) (rest_of f)
    give (value.Arr (record { elem = t; items = items }))
  rest_of (Parts fs) u = do
    items ← parts (grammars fs)
    give (value.Cluster items)

  pub grammars : Forms → List (Grammar Token Value)
  grammars none = []
  grammars (also f fs) = (take (first_of f) >>= rest_of f) ∷ grammars fs

-- a value of a form
abbrev pub of_form : Form → Grammar Token Value
of_form f = take (first_of f) >>= rest_of f

-- a value of a type
abbrev pub values : Ty → Grammar Token Value
values t = of_form (form t)

-- ---- texts

abbrev pub tokens : List ℕ → List Token
tokens text = map (λ x. x.token) (lexemes false 0 0 text)

abbrev pub places : List ℕ → List ℕ
places text = map (λ x. x.begin) (lexemes false 0 0 text)

-- the text spells the value as one of the type
abbrev pub IsSpelling : Ty → List ℕ → Value → Type 0
IsSpelling t text v = Has (values t) (tokens text) v []

-- No value of the type has the text: the token at this byte is the first that no spelling of such a value has there, or at the text's length
-- more is wanted.
pub record IsNotOfType (t : Ty) (text : List ℕ) (byte : ℕ) : Type 0 where
  pub rest : List Token
  pub refused : IsRefused (values t) (tokens text) rest
  pub place : byte ≡ slice_index_or (places text) (length (tokens text) - length rest) (length text)
