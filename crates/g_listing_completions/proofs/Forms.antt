-- Forms of a listing: where a token is refused, tokens that bytes can have complete what was read; and each form begins and ends at the start
-- of a line or inside one.
use Rattle.std.proofs.Common.{◌≡◌, ℕ, zero, suc, List, [], ◌∷◌, ◌++◌, Option, Some, None, refl, sym, ap, ◌∙◌, inl, inr, ◌⊎◌, append_assoc}
use Rattle.g_grammar.specs.Grammar.{Grammar, give, take, bind, loop, first, tail, Phrases, Has, exactly, or_else, ◌>>=◌}
use Rattle.g_grammar.proofs.Laws.{first_is}
use Rattle.g_grammar.proofs.Live.{Live as LiveOver, live_take, live_choice, live_loop, live_bind, live_give, either_left, either_right}
use Rattle.g_tokens.specs.declared.token.Token.{Token}
use Rattle.g_tokens.specs.declared.token.Token.TheVariants as token
use Rattle.g_print_laws.proofs.Parts.{IsGood}
use Rattle.g_listing_completions.proofs.Over.{over}
use Rattle.g_listing_completions.proofs.Good.{Good, token_of}

-- ---- where tokens leave off

pub data State : Type 0 where
  fresh : State
  midway : State
  done : State
  lost : State

-- no token follows END, none is bad, a line that ends has a token, and END stands at the start of a line
abbrev pub step : State → Token → State
step fresh (token.Word w) = midway
step fresh (token.Number n) = midway
step fresh (token.Text b) = midway
step fresh (token.Mark m) = midway
step fresh token.End = done
step midway (token.Word w) = midway
step midway (token.Number n) = midway
step midway (token.Text b) = midway
step midway (token.Mark m) = midway
step midway token.Eol = fresh
step _ _ = lost

abbrev pub run : State → List Token → State
run s [] = s
run s (t ∷ ts) = run (step s t) ts

pub run_both : (s : State) (a b : List Token) → run s (a ++ b) ≡ run (run s a) b
run_both s [] b = refl
run_both s (t ∷ a) b = run_both (step s t) a b

-- ---- where a phrase leaves off, by its value

abbrev pub Passed : List Token → List Token → State → State → Type 0
Passed ts rest from to = (pre : List Token) × (ts ≡ pre ++ rest) × (run from pre ≡ to)

abbrev pub Runs : {A : Type 0} → Grammar Token A → (A → State) → State → Type 0
Runs {A} g to from = (ts : List Token) (a : A) (rest : List Token) → Has g ts a rest → Passed ts rest from (to a)

-- by which of two values it is
abbrev pub sides : {A B : Type 0} → (A → State) → (B → State) → (A ⊎ B) → State
sides f g (inl a) = f a
sides f g (inr b) = g b

-- a token of a kind goes on so
abbrev pub Steps : {A : Type 0} → (Token → Option A) → (A → State) → State → Type 0
Steps {A} p to from = (t : Token) (a : A) → p t ≡ Some a → step from t ≡ to a

-- one more in front
and_passed : (ts mid rest pre : List Token) (from between to : State) → ts ≡ pre ++ mid → run from pre ≡ between → Passed mid rest between to → Passed ts rest from to
and_passed ts mid rest pre from between to e r m =
    (pre ++ m.0, e ∙ ap (λ (u : List Token). pre ++ u) m.1 ∙ sym (append_assoc pre m.0 rest), run_both from pre m.0 ∙ ap (λ (s : State). run s m.0) r ∙ m.2)

-- one token in front
then_passed : {C : Type 0} (p : Token → Option C) (f : C → State) (from to : State) → Steps p f from → (ts rest : List Token) (c : C) → first p ts ≡ Some c → Passed (tail ts) rest (f c) to → Passed ts rest from to
then_passed p f from to steps ts rest c h m =
    let t = first_is p ts c h in
    (t.0 ∷ m.0, t.1 ∙ ap (λ (u : List Token). t.0 ∷ u) m.1, ap (λ (s : State). run s m.0) (steps t.0 c t.2) ∙ m.2)

runs_take : {A : Type 0} (p : Token → Option A) (to : A → State) (from : State) → Steps p to from → Runs (take p) to from
runs_take p to from steps ts a rest h = then_passed p to from (to a) steps ts rest a h.0 ([], h.1, refl)

runs_bind : {A B : Type 0} (g : Grammar Token A) (k : A → Grammar Token B) {between : A → State} {to : B → State} {from : State} → Runs g between from → ((a : A) → Runs (k a) to (between a)) → Runs (bind g k) to from
runs_bind g k {between} {to} {from} rg rk ts b rest h =
    let q = rg ts h.0 h.1 h.2 in
    and_passed ts h.1 rest q.0 from (between h.0) (to b) q.1 q.2 (rk h.0 h.1 b rest h.3)

runs_choice : {A C : Type 0} (p : Token → Option C) (k : C → Grammar Token A) (f : C → State) (to : A → State) (from : State)
    → Steps p f from → ((t : Token) (c : C) → p t ≡ Some c → Runs (k c) to (f c)) → Runs (take p >>= k) to from
runs_choice p k f to from steps rk ts a rest h =
    let t = first_is p ts h.0 h.2.0 in
    let m = rk t.0 h.0 t.2 h.1 a rest h.3 in
    then_passed p f from (to a) steps ts rest h.0 h.2.0 (m.0, h.2.1 ∙ m.1, m.2)

module _ {A C D : Type 0} (p : Token → Option C) (k : C → Grammar Token (A ⊎ D)) (f : C → State) (to : D → State) (from : State)
    (steps : Steps p f from) (body : (t : Token) (c : C) → p t ≡ Some c → Runs (k c) (sides (λ a. from) to) (f c)) where
  phrases_run : (ts : List Token) (xs : List A) (d : D) (rest : List Token) → Phrases p (λ c. Has (k c)) ts xs d rest → Passed ts rest from (to d)
  phrases_run ts [] d rest h =
      let t = first_is p ts h.0 h.1 in
      then_passed p f from (to d) steps ts rest h.0 h.1 (body t.0 h.0 t.2 (tail ts) (inr d) rest h.2)
  phrases_run ts (x ∷ xs) d rest h =
      let t = first_is p ts h.0 h.2 in
      let q = body t.0 h.0 t.2 (tail ts) (inl x) h.1 h.3 in
      then_passed p f from (to d) steps ts rest h.0 h.2 (and_passed (tail ts) h.1 rest q.0 (f h.0) from (to d) q.1 q.2 (phrases_run h.1 xs d rest h.4))

  runs_loop : Runs (loop p k) (λ x. to x.1) from
  runs_loop ts x rest h = phrases_run ts x.0 x.1 rest h

-- ---- kinds of tokens

-- no form takes these midway a line
pub in_line : {A : Type 0} (p : Token → Option A) → p token.Eol ≡ None → p token.End ≡ None → p token.Bad ≡ None → Steps p (λ a. midway) midway
in_line p eol end bad (token.Word w) a h = refl
in_line p eol end bad (token.Number n) a h = refl
in_line p eol end bad (token.Text b) a h = refl
in_line p eol end bad (token.Mark m) a h = refl
in_line p eol end bad token.Eol a h = absurd (let e : None ≡ Some a = sym eol ∙ h in cc)
in_line p eol end bad token.End a h = absurd (let e : None ≡ Some a = sym end ∙ h in cc)
in_line p eol end bad token.Bad a h = absurd (let e : None ≡ Some a = sym bad ∙ h in cc)

pub at_start : {A : Type 0} (p : Token → Option A) → p token.Eol ≡ None → p token.End ≡ None → p token.Bad ≡ None → Steps p (λ a. midway) fresh
at_start p eol end bad (token.Word w) a h = refl
at_start p eol end bad (token.Number n) a h = refl
at_start p eol end bad (token.Text b) a h = refl
at_start p eol end bad (token.Mark m) a h = refl
at_start p eol end bad token.Eol a h = absurd (let e : None ≡ Some a = sym eol ∙ h in cc)
at_start p eol end bad token.End a h = absurd (let e : None ≡ Some a = sym end ∙ h in cc)
at_start p eol end bad token.Bad a h = absurd (let e : None ≡ Some a = sym bad ∙ h in cc)

-- one of two kinds
pub either_steps : {A B : Type 0} (p : Token → Option A) (q : Token → Option B) (f : A → State) (g : B → State) (from : State) → Steps p f from → Steps q g from → Steps (or_else p q) (sides f g) from
either_steps p q f g from sp sq t (inl a) h = sp t a (either_left (p t) (q t) a h)
either_steps p q f g from sp sq t (inr b) h = sq t b (either_right (p t) (q t) b h)

-- ---- forms

pub record Form {A : Type 0} (g : Grammar Token A) (to : A → State) (from : State) : Type 0 where
  pub live : LiveOver (over token_of g)
  pub runs : Runs g to from

abbrev pub GoodHas : {A : Type 0} → Grammar Token A → List Good → A → List Good → Type 0
GoodHas g = Has (over token_of g)

pub form_give : {A : Type 0} {to : A → State} (a : A) → Form (give a) to (to a)
form_give {A} {to} a = record { live = live_give a; runs = λ ts b rest h. ([], h.1, ap to h.0) }

pub form_take : {A : Type 0} (p : Token → Option A) (to : A → State) (from : State) (t : Token) → IsGood t → (a : A) → p t ≡ Some a → Steps p to from → Form (take p) to from
form_take p to from t good a h steps = record { live = live_take {p = λ u. p (token_of u)} (t, good) a h; runs = runs_take p to from steps }

pub form_bind : {A B : Type 0} {g : Grammar Token A} {k : A → Grammar Token B} {between : A → State} {to : B → State} {from : State} → Form g between from → ((a : A) → Form (k a) to (between a)) → Form (bind g k) to from
form_bind {A} {B} {g} {k} fg fk = record { live = live_bind fg.live λ a. (fk a).live; runs = runs_bind g k fg.runs λ a. (fk a).runs }

pub form_choice : {A C : Type 0} (p : Token → Option C) (k : C → Grammar Token A) (f : C → State) (to : A → State) (from : State) → Steps p f from
    → (t : Token) → IsGood t → (c : C) → p t ≡ Some c → ((t : Token) (c : C) → p t ≡ Some c → Form (k c) to (f c)) → Form (take p >>= k) to from
form_choice p k f to from steps t good c h forms = record {
  live = live_choice (λ u. p (token_of u)) (λ c. over token_of (k c)) (t, good) c h (λ u c e. (forms (token_of u) c e).live);
  runs = runs_choice p k f to from steps (λ t c e. (forms t c e).runs);
}

pub form_loop : {A C D : Type 0} (p : Token → Option C) (k : C → Grammar Token (A ⊎ D)) (f : C → State) (to : D → State) (from : State) → Steps p f from
    → ((t : Token) (c : C) → p t ≡ Some c → Form (k c) (sides (λ a. from) to) (f c))
    → (t : Token) → IsGood t → (c : C) (end : List Good) (d : D) → p t ≡ Some c → GoodHas (k c) end (inr d) [] → Form (loop p k) (λ x. to x.1) from
form_loop p k f to from steps forms t good c end d starts ended = record {
  live = live_loop (λ u. p (token_of u)) (λ c. over token_of (k c)) (λ u c e. (forms (token_of u) c e).live) (t, good) c end d starts ended;
  runs = runs_loop p k f to from steps (λ t c e. (forms t c e).runs);
}

pub form_exactly : {A : Type 0} {s : State} (n : ℕ) (g : Grammar Token A) → Form g (λ a. s) s → Form (exactly n g) (λ xs. s) s
form_exactly zero g form = form_give []
form_exactly (suc n) g form = form_bind form λ x. form_bind (form_exactly n g form) λ xs. form_give (x ∷ xs)

-- a token inside a line, of a kind that ends none
pub form_in : {A : Type 0} (p : Token → Option A) (t : Token) → IsGood t → (a : A) → p t ≡ Some a → p token.Eol ≡ None → p token.End ≡ None → p token.Bad ≡ None → Form (take p) (λ a. midway) midway
form_in p t good a h eol end bad = form_take p (λ a. midway) midway t good a h (in_line p eol end bad)

-- a token that begins a line
pub form_first : {A : Type 0} (p : Token → Option A) (t : Token) → IsGood t → (a : A) → p t ≡ Some a → p token.Eol ≡ None → p token.End ≡ None → p token.Bad ≡ None → Form (take p) (λ a. midway) fresh
form_first p t good a h eol end bad = form_take p (λ a. midway) fresh t good a h (at_start p eol end bad)
