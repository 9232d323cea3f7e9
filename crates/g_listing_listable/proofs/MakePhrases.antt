-- Good tokens that have a value by a grammar, composed form by form in the grammar's own shape.
use Rattle.std.proofs.Common.{◌≡◌, List, [], ◌∷◌, ◌++◌, Bool, true, false, Option, Some, None, refl, sym, ap, subst, append_assoc, inl, inr, ◌⊎◌}
use Rattle.std.specs.List.{All}
use Rattle.std.proofs.lemmas.List.Elements.{All-head, All-tail}
use Rattle.g_grammar.specs.Grammar.{Grammar, give, take, bind, loop, Has, or_else}
use Rattle.g_tokens.specs.declared.token.Token.{Token}
use Rattle.g_listing_grammar.specs.Nodes.{and_last}
use Rattle.g_print_laws.proofs.Parts.{IsGood, AreGood}

pub record Makes {A : Type 0} (g : Grammar Token A) (a : A) : Type 0 where
  pub tokens : List Token
  pub good : AreGood tokens
  pub has : (rest : List Token) → Has g (tokens ++ rest) a rest

pub all_good : (ts us : List Token) → AreGood ts → AreGood us → AreGood (ts ++ us)
all_good [] us g h = h
all_good (t ∷ ts) us g h = (g.0, all_good ts us g.1 h)

pub makes_give : {A : Type 0} (a : A) → Makes (give a) a
makes_give a = record { tokens = []; good = tt; has = λ rest. (refl, refl) }

pub makes_take : {A : Type 0} {p : Token → Option A} (t : Token) (a : A) → IsGood t → p t ≡ Some a → Makes (take p) a
makes_take t a g e = record { tokens = t ∷ []; good = (g, tt); has = λ rest. (e, refl) }

pub makes_bind : {A B : Type 0} {g : Grammar Token A} {f : A → Grammar Token B} {a : A} {b : B} → Makes g a → Makes (f a) b → Makes (bind g f) b
makes_bind {A} {B} {g} {f} {a} {b} m n = record {
  tokens = m.tokens ++ n.tokens;
  good = all_good m.tokens n.tokens m.good n.good;
  has = λ rest. (a, n.tokens ++ rest, subst (λ (l : List Token). Has g l a (n.tokens ++ rest)) (sym (append_assoc m.tokens n.tokens rest)) (m.has (n.tokens ++ rest)), n.has rest);
}

-- a phrase with its first token apart
pub record Begins {A C : Type 0} (p : Token → Option C) (k : C → Grammar Token A) (a : A) : Type 0 where
  pub token : Token
  pub good : IsGood token
  pub first : C
  pub is : p token ≡ Some first
  pub rest : Makes (k first) a

pub makes_begun : {A C : Type 0} {p : Token → Option C} {k : C → Grammar Token A} {a : A} → Begins p k a → Makes (bind (take p) k) a
makes_begun b = makes_bind (makes_take b.token b.first b.good b.is) b.rest

pub begins_bind : {A B C : Type 0} {p : Token → Option C} {k : C → Grammar Token A} {f : A → Grammar Token B} {a : A} {b : B} → Begins p k a → Makes (f a) b → Begins p (λ c. bind (k c) f) b
begins_bind x m = record { token = x.token; good = x.good; first = x.first; is = x.is; rest = makes_bind x.rest m }

-- ---- one of two

pub first_one : {A B : Type 0} (p : Token → Option A) (q : Token → Option B) (t : Token) (a : A) → p t ≡ Some a → or_else p q t ≡ Some (inl a)
first_one p q t a e = rw e refl

pub second_one : {A B : Type 0} (p : Token → Option A) (q : Token → Option B) (t : Token) (b : B) → p t ≡ None → q t ≡ Some b → or_else p q t ≡ Some (inr b)
second_one p q t b e f = rw (e, f) refl

-- ---- loops

module _ {A C D : Type 0} {p : Token → Option C} {k : C → Grammar Token (A ⊎ D)} where
  pub makes_last : (d : D) → Begins p k (inr d) → Makes (loop p k) ([], d)
  makes_last d b = record {
    tokens = b.token ∷ b.rest.tokens;
    good = (b.good, b.rest.good);
    has = λ rest. (b.first, b.is, b.rest.has rest);
  }

  pub makes_more : (x : A) (xs : List A) (d : D) → Begins p k (inl x) → Makes (loop p k) (xs, d) → Makes (loop p k) (x ∷ xs, d)
  makes_more x xs d b n = record {
    tokens = b.token ∷ (b.rest.tokens ++ n.tokens);
    good = (b.good, all_good b.rest.tokens n.tokens b.rest.good n.good);
    has = λ rest. (
      b.first,
      n.tokens ++ rest,
      b.is,
      subst (λ (l : List Token). Has (k b.first) l (inl x) (n.tokens ++ rest)) (sym (append_assoc b.rest.tokens n.tokens rest)) (b.rest.has (n.tokens ++ rest)),
      n.has rest,
    );
  }

  pub makes_loop : (xs : List A) (d : D) → All (λ x. Begins p k (inl x)) xs → Begins p k (inr d) → Makes (loop p k) (xs, d)
  makes_loop [] d a b = makes_last d b
  makes_loop (x ∷ xs) d a b = makes_more x xs d (All-head (λ x. Begins p k (inl x)) x xs a) (makes_loop xs d (All-tail (λ x. Begins p k (inl x)) x xs a) b)

-- ---- loops of which the last turn has a value too

abbrev pub turn_of : {A : Type 0} → Bool → A → A ⊎ A
turn_of true a = inl a
turn_of false a = inr a

-- the values but the last, and it
pub record Ended {A : Type 0} (g : Grammar Token (List A × A)) (xs : List A) : Type 0 where
  pub parts : List A × A
  pub is : and_last parts ≡ xs
  pub makes : Makes g parts

-- turns of such a loop that have this value, whether others follow or not
abbrev pub Turns : {A C : Type 0} → (Token → Option C) → (C → Grammar Token (A ⊎ A)) → A → Type 0
Turns p k x = (more : Bool) → Begins p k (turn_of more x)

pub makes_ended : {A C : Type 0} (p : Token → Option C) (k : C → Grammar Token (A ⊎ A)) (x : A) (xs : List A) → All (Turns p k) (x ∷ xs) → Ended (loop p k) (x ∷ xs)
makes_ended p k x [] a = record { parts = ([], x); is = refl; makes = makes_last x (All-head (Turns p k) x [] a false) }
makes_ended p k x (y ∷ ys) a =
    let e = makes_ended p k y ys (All-tail (Turns p k) x (y ∷ ys) a) in
    record {
      parts = (x ∷ e.parts.0, e.parts.1);
      is = ap (λ l. x ∷ l) e.is;
      makes = makes_more x e.parts.0 e.parts.1 (All-head (Turns p k) x (y ∷ ys) a true) e.makes;
    }

pub makes_from_ended : {A B : Type 0} {g : Grammar Token (List A × A)} (f : List A → B) {xs : List A} → Ended g xs → Makes (bind g (λ y. give (f (and_last y)))) (f xs)
makes_from_ended {A} {B} {g} f {xs} e = makes_bind e.makes (subst (λ (l : List A). Makes (give (f (and_last e.parts))) (f l)) e.is (makes_give (f (and_last e.parts))))
