-- Values can be completed wherever a token is refused.
use Rattle.std.proofs.Common.{◌≡◌, ℕ, zero, suc, Bool, true, false, List, [], ◌∷◌, Option, Some, None, codes, refl, inl, inr, ◌⊎◌, pos}
use Rattle.g_grammar.specs.Grammar.{Grammar, take, or_else, ◌>>=◌}
use Rattle.g_grammar.proofs.Live.{Live, live_give, live_take, live_bind, live_choice}
use Rattle.g_tokens.specs.declared.token.Token.{Token}
use Rattle.g_tokens.specs.declared.token.Token.TheVariants as token
use Rattle.g_tokens.specs.declared.token.Mark.TheVariants as mark
use Rattle.g_types.specs.declared.rep.Rep.{Rep}
use Rattle.g_types.specs.declared.rep.Rep.TheVariants.{I8, I16, I32, I64, U8, U16, U32, U64}
use Rattle.g_types.specs.declared.ty.Ty.{Ty}
use Rattle.g_values.specs.declared.value.Value.{Value}
use Rattle.g_values.specs.declared.value.Value.TheVariants as value
use Rattle.g_values.specs.Number.{num_of}
use Rattle.g_valtext.specs.Forms.{Form, Forms, Number, Truth, Text, Numbers, Items, Parts, Null, none, also, form}
use Rattle.g_valtext.specs.Spellings.{First, first_of, rest_of, values, grammars, number_within, close_bracket, comma_or_bracket, turn, turn_rest, after_turn, further, from_first, array_rest, most_further, parts, parts_after}

-- ---- arrays

live_turn : {A : Type 0} (g : Grammar Token A) → Live g → Live (turn g)
live_turn g live = live_choice comma_or_bracket (turn_rest g) (token.Mark mark.CloseBracket) false refl (λ t again e. rest again)
  where
    rest : (again : Bool) → Live (turn_rest g again)
    rest true = live_bind live λ x. live_give (Some x)
    rest false = live_give None

live_after : {A : Type 0} (rest : Grammar Token (List A)) → Live rest → (o : Option A) → Live (after_turn rest o)
live_after rest live None = live_give []
live_after rest live (Some x) = live_bind live λ xs. live_give (x ∷ xs)

live_further : {A : Type 0} (g : Grammar Token A) → Live g → (n : ℕ) → Live (further g n)
unfolding further
live_further g live zero = live_bind (live_take (token.Mark mark.CloseBracket) tt refl) λ u. live_give []
live_further g live (suc n) = live_bind (live_turn g live) (live_after (further g n) (live_further g live n))

live_first : {A C : Type 0} (k : C → Grammar Token A) (more : Grammar Token (List A)) → ((c : C) → Live (k c)) → Live more → (c : Unit {0} ⊎ C) → Live (from_first k more c)
live_first k more live rest (inl end) = live_give []
live_first k more live rest (inr c) = live_bind (live c) λ x. live_bind rest λ xs. live_give (x ∷ xs)

live_array : {A C : Type 0} (p : Token → Option C) (k : C → Grammar Token A) (t : Token) (c : C) → p t ≡ Some c → ((c : C) → Live (k c)) → Live (array_rest p k)
live_array p k t c e live =
    let item = live_choice p k t c e (λ u d f. live d) in
    let first = live_first k (further (take p >>= k) most_further) live (live_further (take p >>= k) item most_further) in
    live_choice (or_else close_bracket p) (from_first k (further (take p >>= k) most_further)) (token.Mark mark.CloseBracket) (inl tt) refl (λ u d f. first d)

-- ---- clusters

abbrev Lives : List (Grammar Token Value) → Type 0
Lives [] = Unit {0}
Lives (g ∷ gs) = Live g × Lives gs

live_parts_after : (gs : List (Grammar Token Value)) → Lives gs → Live (parts_after gs)
live_parts_after [] live = live_bind (live_take (token.Mark mark.CloseBrace) tt refl) λ u. live_give []
live_parts_after (g ∷ gs) live = live_bind (live_bind (live_take (token.Mark mark.Comma) tt refl) λ u. live.0) λ v. live_bind (live_parts_after gs live.1) λ vs. live_give (v ∷ vs)

live_parts : (gs : List (Grammar Token Value)) → Lives gs → Live (parts gs)
live_parts [] live = live_bind (live_take (token.Mark mark.CloseBrace) tt refl) λ u. live_give []
live_parts (g ∷ gs) live = live_bind live.0 λ v. live_bind (live_parts_after gs live.1) λ vs. live_give (v ∷ vs)

-- ---- values

zero_within : (r : Rep) → first_of (Number r) (token.Number (pos 0)) ≡ Some (value.Num (num_of r (pos 0)))
zero_within I8 = refl
zero_within I16 = refl
zero_within I32 = refl
zero_within I64 = refl
zero_within U8 = refl
zero_within U16 = refl
zero_within U32 = refl
zero_within U64 = refl

number_begins : (r : Rep) → number_within r (token.Number (pos 0)) ≡ Some (pos 0)
number_begins I8 = refl
number_begins I16 = refl
number_begins I32 = refl
number_begins I64 = refl
number_begins U8 = refl
number_begins U16 = refl
number_begins U32 = refl
number_begins U64 = refl

-- a token that a value of the form begins with
begins : (f : Form) → (t : Token) × (c : First f) × (first_of f t ≡ Some c)
begins (Number r) = (token.Number (pos 0), value.Num (num_of r (pos 0)), zero_within r)
begins Truth = (token.Word (codes "TRUE"), value.Bool true, refl)
begins Text = (token.Text [], value.Str [], refl)
begins (Null v) = (token.Word (codes "null"), v, refl)
begins (Numbers r) = (token.Mark mark.OpenBracket, tt, refl)
begins (Items t f) = (token.Mark mark.OpenBracket, tt, refl)
begins (Parts fs) = (token.Mark mark.OpenBrace, tt, refl)

mutual
  unfolding rest_of grammars

  live_rest : (f : Form) (c : First f) → Live (rest_of f c)
  live_rest (Number r) v = live_give v
  live_rest Truth v = live_give v
  live_rest Text v = live_give v
  live_rest (Null v) w = live_give w
  live_rest (Numbers r) u = live_bind (live_array (number_within r) (λ n. _) (token.Number (pos 0)) (pos 0) (number_begins r) (λ n. live_give n)) λ all. live_give _
  live_rest (Items t f) u = live_bind (live_array (first_of f) (rest_of f) (begins f).0 (begins f).1 (begins f).2 (live_rest f)) λ items. live_give _
  live_rest (Parts fs) u = live_bind (live_parts (grammars fs) (live_all fs)) λ items. live_give _

  live_all : (fs : Forms) → Lives (grammars fs)
  live_all none = tt
  live_all (also f fs) = (live_choice (first_of f) (rest_of f) (begins f).0 (begins f).1 (begins f).2 (λ t c e. live_rest f c), live_all fs)

pub live_values : (t : Ty) → Live (values t)
live_values t =
    let f = form t in
    live_choice (first_of f) (rest_of f) (begins f).0 (begins f).1 (begins f).2 (λ t c e. live_rest f c)
