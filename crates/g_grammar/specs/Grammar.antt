-- A grammar reads a phrase from left to right, one token after the other, and a phrase shows itself where it ends.
use Rattle.std.specs.Prelude.{◌≡◌, ℕ, zero, suc, List, [], ◌∷◌, ◌++◌, length, Option, Some, None, Result, Ok, Err, ◌⊎◌}
use Rattle.std.proofs.Common.{inl, inr}

pub data Grammar (T : Type 0) : Type 0 → Type 1 where
  -- no token, and this value
  give : {A : Type 0} → A → Grammar T A
  -- one token, of which this value is known
  take : {A : Type 0} → (T → Option A) → Grammar T A
  -- one phrase, and then another that may depend on its value
  bind : {A B : Type 0} → Grammar T A → (A → Grammar T B) → Grammar T B
  -- phrases that begin with such a token, as long as they have a value inl, up to one that has a value inr
  loop : {A C D : Type 0} → (T → Option C) → (C → Grammar T (A ⊎ D)) → Grammar T (List A × D)

infixl 10 ◌>>=◌
abbrev pub ◌>>=◌ : {T A B : Type 0} → Grammar T A → (A → Grammar T B) → Grammar T B
g >>= f = bind g f

-- what is known of the first token
abbrev pub first : {T A : Type 0} → (T → Option A) → List T → Option A
first p [] = None
first p (t ∷ ts) = p t

abbrev pub tail : {T : Type 0} → List T → List T
tail [] = []
tail (t ∷ ts) = ts

-- the tokens begin with phrases of these values, of which the last alone is an inr, and then come these
abbrev pub Phrases : {T A C D : Type 0} → (T → Option C) → (C → List T → (A ⊎ D) → List T → Type 0) → List T → List A → D → List T → Type 0
Phrases {T} {A} {C} {D} p R ts [] d rest = (c : C) × (first p ts ≡ Some c) × R c (tail ts) (inr d) rest
Phrases {T} {A} {C} {D} p R ts (x ∷ xs) d rest = (c : C) × (mid : List T) × (first p ts ≡ Some c) × R c (tail ts) (inl x) mid × Phrases p R mid xs d rest

-- the tokens begin with a phrase of this value, and then come these
abbrev pub Has : {T A : Type 0} → Grammar T A → List T → A → List T → Type 0
Has (give x) ts a rest = (x ≡ a) × (ts ≡ rest)
Has (take p) ts a rest = (first p ts ≡ Some a) × (tail ts ≡ rest)
Has {T} (bind {A} g f) ts b rest = (a : A) × (mid : List T) × Has g ts a mid × Has (f a) mid b rest
Has (loop p k) ts x rest = Phrases p (λ c. Has (k c)) ts x.0 x.1 rest

-- ---- reading

-- a value and the tokens after it, or the tokens from the refused one on
abbrev pub Read : Type 0 → Type 0 → Type 0
Read T A = Result (A × List T) (List T)

abbrev pub then : {T A B : Type 0} → Read T A → (A → List T → Read T B) → Read T B
then (Ok x) f = f x.0 x.1
then (Err bad) f = Err bad

abbrev pub taken : {T A : Type 0} → Option A → List T → Read T A
taken None ts = Err ts
taken (Some a) ts = Ok (a, tail ts)

abbrev pub put : {T A D : Type 0} → A → Read T (List A × D) → Read T (List A × D)
put x (Ok y) = Ok ((x ∷ y.0.0, y.0.1), y.1)
put x (Err bad) = Err bad

abbrev pub more : {T A D : Type 0} → (List T → Read T (List A × D)) → (A ⊎ D) → List T → Read T (List A × D)
more go (inl x) mid = put x (go mid)
more go (inr d) mid = Ok (([], d), mid)

-- at most so many phrases
unfoldable pub repeat : {T A C D : Type 0} → (T → Option C) → (C → List T → Read T (A ⊎ D)) → ℕ → List T → Read T (List A × D)
repeat p r zero ts = Err ts
repeat p r (suc n) ts = then (then (taken (first p ts) ts) r) (more (repeat p r n))

abbrev pub read : {T A : Type 0} → Grammar T A → List T → Read T A
read (give a) ts = Ok (a, ts)
read (take p) ts = taken (first p ts) ts
read (bind g f) ts = then (read g ts) (λ a mid. read (f a) mid)
read (loop p k) ts = repeat p (λ c. read (k c)) (length ts) ts

-- all tokens are one phrase; else the tokens from the refused one on, which may be the first after a phrase
abbrev pub all_read : {T A : Type 0} → Read T A → Result A (List T)
all_read (Ok (a, [])) = Ok a
all_read (Ok (a, t ∷ ts)) = Err (t ∷ ts)
all_read (Err bad) = Err bad

-- ---- combinations

-- no phrase
abbrev pub nothing : {T A : Type 0} → Grammar T A
nothing = take (λ t. None)

-- one of two kinds of tokens
abbrev pub either : {A B : Type 0} → Option A → Option B → Option (A ⊎ B)
either (Some a) o = Some (inl a)
either None (Some b) = Some (inr b)
either None None = None

abbrev pub or_else : {T A B : Type 0} → (T → Option A) → (T → Option B) → T → Option (A ⊎ B)
or_else p q t = either (p t) (q t)

-- so many phrases
abbrev pub exactly : {T A : Type 0} → ℕ → Grammar T A → Grammar T (List A)
exactly zero g = give []
exactly (suc n) g = do
  x ← g
  xs ← exactly n g
  give (x ∷ xs)

-- ---- the refused token

-- two rests begin with one token, or neither has one
abbrev pub Like : {T : Type 0} → List T → List T → Type 0
Like [] [] = Unit {0}
Like [] (u ∷ us) = ⊥
Like (t ∷ ts) [] = ⊥
Like (t ∷ ts) (u ∷ us) = t ≡ u

-- Where reading is refused: no phrase begins with the tokens before and the refused one, and some phrase begins with the tokens before.
pub record IsSpot {T A : Type 0} (g : Grammar T A) (ts bad : List T) : Type 0 where
  pub before : List T
  pub place : ts ≡ before ++ bad
  pub refused : (s : List T) (a : A) (rest : List T) → Like bad s → Has g (before ++ s) a rest → ⊥
  pub completion : List T
  pub value : A
  pub completed : Has g (before ++ completion) value []

-- The same where a phrase has to be all of the tokens.
pub record IsRefused {T A : Type 0} (g : Grammar T A) (ts bad : List T) : Type 0 where
  pub before : List T
  pub place : ts ≡ before ++ bad
  pub refused : (s : List T) (a : A) → Like bad s → Has g (before ++ s) a [] → ⊥
  pub completion : List T
  pub value : A
  pub completed : Has g (before ++ completion) value []
