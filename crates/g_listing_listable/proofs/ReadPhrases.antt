-- What the values of a grammar are like that good tokens have, composed form by form in the grammar's own shape.
use Rattle.std.proofs.Common.{◌≡◌, List, [], ◌∷◌, Option, Some, refl, subst, inl, inr, ◌⊎◌}
use Rattle.std.proofs.lemmas.List.Elements.{All-nil, All-cons}
use Rattle.g_grammar.specs.Grammar.{Grammar, give, take, bind, loop, tail, Phrases, Has}
use Rattle.g_grammar.proofs.Laws.{first_is}
use Rattle.g_tokens.specs.declared.token.Token.{Token}
use Rattle.g_listing_laws.proofs.Gives.{Gives, Either, Ended}
use Rattle.g_print_laws.proofs.Parts.{IsGood, AreGood, after}

pub record Reads {A : Type 0} (P : A → Type 0) (g : Grammar Token A) : Type 0 where
  pub each : (ts : List Token) (a : A) (rest : List Token) → AreGood ts → Has g ts a rest → P a

-- of what nothing is to be known
abbrev pub Any : {A : Type 0} → A → Type 0
Any a = Unit {0}

pub reads_give : {A : Type 0} {P : A → Type 0} (a : A) → P a → Reads P (give a)
reads_give {A} {P} a p = record { each = λ ts b rest good h. subst P h.0 p }

pub reads_take : {A : Type 0} {P : A → Type 0} {p : Token → Option A} → ((t : Token) (a : A) → IsGood t → p t ≡ Some a → P a) → Reads P (take p)
reads_take {A} {P} {p} known = record {
  each = λ ts a rest good h.
      let f = first_is p ts a h.0 in
      let g : AreGood (f.0 ∷ tail ts) = subst AreGood f.1 good in
      known f.0 a g.0 f.2;
}

pub reads_bind : {A B : Type 0} {P : B → Type 0} {Q : A → Type 0} {g : Grammar Token A} {f : A → Grammar Token B} → Reads Q g → ((a : A) → Q a → Reads P (f a)) → Reads P (bind g f)
reads_bind {A} {B} {P} {Q} {g} {f} one next = record { each = λ ts b rest good h. (next h.0 (one.each ts h.0 h.1 good h.2)).each h.1 b rest (after g ts h.0 h.1 h.2 good) h.3 }

-- whatever the first phrase is
pub reads_after : {A B : Type 0} {P : B → Type 0} {g : Grammar Token A} {f : A → Grammar Token B} → ((a : A) → Reads P (f a)) → Reads P (bind g f)
reads_after {A} {B} {P} {g} {f} next = record { each = λ ts b rest good h. (next h.0).each h.1 b rest (after g ts h.0 h.1 h.2 good) h.3 }

-- what any tokens have
pub reads_any : {A : Type 0} {P : A → Type 0} {g : Grammar Token A} → Gives P g → Reads P g
reads_any {A} {P} {g} x = record { each = λ ts a rest good h. x.each ts a rest h }

module _ {A C D : Type 0} (K : C → Type 0) (P : A → Type 0) (Q : D → Type 0) (p : Token → Option C) (k : C → Grammar Token (A ⊎ D))
    (known : (t : Token) (c : C) → IsGood t → p t ≡ Some c → K c) (given : (c : C) → K c → Reads (Either P Q) (k c)) where
  turn : Reads (Either P Q) (bind (take p) k)
  turn = reads_bind {Q = K} (reads_take known) given

  phrases_each : (ts : List Token) (xs : List A) (d : D) (rest : List Token) → AreGood ts → Phrases p (λ c. Has (k c)) ts xs d rest → Ended P Q (xs, d)
  phrases_each ts [] d rest good h = record { all = All-nil P; last = turn.each ts (inr d) rest good (h.0, tail ts, (h.1, refl), h.2) }
  phrases_each ts (x ∷ xs) d rest good h =
      let one : Has (bind (take p) k) ts (inl x) h.1 = (h.0, tail ts, (h.2, refl), h.3) in
      let more = phrases_each h.1 xs d rest (after (bind (take p) k) ts (inl x) h.1 one good) h.4 in
      record { all = All-cons P x xs (turn.each ts (inl x) h.1 good one) more.all; last = more.last }

  pub reads_loop : Reads (Ended P Q) (loop p k)
  reads_loop = record { each = λ ts x rest good h. phrases_each ts x.0 x.1 rest good h }
