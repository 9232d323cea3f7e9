-- What the values of a grammar are like, composed form by form in the grammar's own shape.
use Rattle.std.proofs.Common.{◌≡◌, List, [], ◌∷◌, Option, Some, subst, inl, inr, ◌⊎◌}
use Rattle.std.specs.List.{All}
use Rattle.std.proofs.lemmas.List.Elements.{All-nil, All-cons}
use Rattle.g_grammar.specs.Grammar.{Grammar, give, take, bind, loop, tail, Phrases, Has}
use Rattle.g_grammar.proofs.Laws.{first_is}

pub record Gives {T A : Type 0} (P : A → Type 0) (g : Grammar T A) : Type 0 where
  pub each : (ts : List T) (a : A) (rest : List T) → Has g ts a rest → P a

pub gives_give : {T A : Type 0} {P : A → Type 0} (a : A) → P a → Gives {T = T} P (give a)
gives_give {T} {A} {P} a p = record { each = λ ts b rest h. subst P h.0 p }

pub gives_take : {T A : Type 0} {P : A → Type 0} {p : T → Option A} → ((t : T) (a : A) → p t ≡ Some a → P a) → Gives P (take p)
gives_take {T} {A} {P} {p} known = record { each = λ ts a rest h. let f = first_is p ts a h.0 in known f.0 a f.2 }

pub gives_bind : {T A B : Type 0} {P : B → Type 0} {Q : A → Type 0} {g : Grammar T A} {f : A → Grammar T B} → Gives Q g → ((a : A) → Q a → Gives P (f a)) → Gives P (bind g f)
gives_bind {T} {A} {B} {P} {Q} {g} {f} before after = record { each = λ ts b rest h. (after h.0 (before.each ts h.0 h.1 h.2)).each h.1 b rest h.3 }

-- whatever the first phrase is
pub gives_after : {T A B : Type 0} {P : B → Type 0} {g : Grammar T A} {f : A → Grammar T B} → ((a : A) → Gives P (f a)) → Gives P (bind g f)
gives_after {T} {A} {B} {P} {g} {f} after = record { each = λ ts b rest h. (after h.0).each h.1 b rest h.3 }

abbrev pub Either : {A D : Type 0} → (A → Type 0) → (D → Type 0) → A ⊎ D → Type 0
Either P Q (inl a) = P a
Either P Q (inr d) = Q d

-- the values of a loop's phrases, and that of the last one
pub record Ended {A D : Type 0} (P : A → Type 0) (Q : D → Type 0) (x : List A × D) : Type 0 where
  pub all : All P x.0
  pub last : Q x.1

module _ {T A C D : Type 0} (P : A → Type 0) (Q : D → Type 0) (p : T → Option C) (k : C → Grammar T (A ⊎ D)) (given : (c : C) → Gives (Either P Q) (k c)) where
  phrases_each : (ts : List T) (xs : List A) (d : D) (rest : List T) → Phrases p (λ c. Has (k c)) ts xs d rest → Ended P Q (xs, d)
  phrases_each ts [] d rest h = record { all = All-nil P; last = (given h.0).each (tail ts) (inr d) rest h.2 }
  phrases_each ts (x ∷ xs) d rest h =
      let more = phrases_each h.1 xs d rest h.4 in
      record { all = All-cons P x xs ((given h.0).each (tail ts) (inl x) h.1 h.3) more.all; last = more.last }

  pub gives_loop : Gives (Ended P Q) (loop p k)
  gives_loop = record { each = λ ts x rest h. phrases_each ts x.0 x.1 rest h }
