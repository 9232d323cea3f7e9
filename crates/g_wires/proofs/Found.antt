-- Elements that pass a test.
use Rattle.std.proofs.Common.{◌≡◌, ◌⊎◌, inl, inr, ⊎_elim, ℕ, Bool, true, false, ◌&&◌, ◌||◌, ◌==◌, cond, List, [], ◌∷◌, map, filter, refl, ap, ◌∙◌, arith}
use Rattle.std.specs.Prelude.{All}
use Rattle.std.specs.List.{list_any}
use Rattle.std.proofs.lemmas.List.Elements.{All-head, All-tail}

pub or_left : (a b : Bool) → a ≡ true → (a || b) ≡ true
or_left a b h = ap (λ x. x || b) h

pub or_right : (a b : Bool) → b ≡ true → (a || b) ≡ true
or_right true b h = refl
or_right false b h = h

pub or_cases : (a b : Bool) → (a || b) ≡ true → (a ≡ true) ⊎ (b ≡ true)
or_cases true b h = inl refl
or_cases false b h = inr h

pub and_left : (a b : Bool) → (a && b) ≡ true → a ≡ true
and_left true b h = refl
and_left false b h = h

pub and_right : (a b : Bool) → (a && b) ≡ true → b ≡ true
and_right true b h = h
and_right false b h = cc

pub and_both : (a b : Bool) → a ≡ true → b ≡ true → (a && b) ≡ true
and_both true b h k = k
and_both false b h k = h

pub same_number : (x y : ℕ) → (x == y) ≡ true → x ≡ y
same_number x y e = grind (arith, e)

pub number_same : (x : ℕ) → (x == x) ≡ true
number_same x = grind arith

-- an element of a list that passes a test: each list of tests that it passes is passed by one
pub record Found {X : Type 0} (P : X → Type 0) (test : X → Bool) (xs : List X) : Type 0 where
  pub item : X
  pub passes : test item ≡ true
  pub holds : P item
  pub within : (f : X → Bool) → f item ≡ true → list_any f xs ≡ true

pub found : {X : Type 0} (P : X → Type 0) (test : X → Bool) (xs : List X) → All P xs → list_any test xs ≡ true → Found P test xs
found P test [] all h = cc
found P test (x ∷ xs) all h = ⊎_elim
    (λ e. record { item = x; passes = e; holds = All-head P x xs all; within = λ f fx. or_left (f x) (list_any f xs) fx })
    (λ e. let r : Found P test xs = found P test xs (All-tail P x xs all) e in
    record { item = r.item; passes = r.passes; holds = r.holds; within = λ f fx. or_right (f x) (list_any f xs) (r.within f fx) })
    (or_cases (test x) (list_any test xs) h)

any_kept : {X : Type 0} (p : X → Bool) (x : X) (xs : List X) (b : Bool) → list_any p (cond b (x ∷ xs) xs) ≡ ((b && p x) || list_any p xs)
any_kept p x xs true = refl
any_kept p x xs false = refl

-- a test of those that pass another
pub any_filter : {X : Type 0} (p q : X → Bool) (xs : List X) → list_any p (filter q xs) ≡ list_any (λ x. q x && p x) xs
any_filter p q [] = refl
any_filter p q (x ∷ xs) = any_kept p x (filter q xs) (q x) ∙ ap (λ b. (q x && p x) || b) (any_filter p q xs)

-- tests that agree at each element
pub any_same : {X Y : Type 0} (f : X → Y) (p : Y → Bool) (q : X → Bool) (xs : List X) → All (λ x. p (f x) ≡ q x) xs → list_any p (map f xs) ≡ list_any q xs
any_same f p q [] all = refl
any_same f p q (x ∷ xs) all =
    ap (λ b. b || list_any p (map f xs)) (All-head (λ x. p (f x) ≡ q x) x xs all) ∙ ap (λ b. q x || b) (any_same f p q xs (All-tail (λ x. p (f x) ≡ q x) x xs all))

keep_same : {X Y : Type 0} (f : X → Y) (x : X) (xs : List X) (a b : Bool) → a ≡ b → cond a (f x ∷ map f xs) (map f xs) ≡ map f (cond b (x ∷ xs) xs)
keep_same f x xs a true e = ap (λ c. cond c (f x ∷ map f xs) (map f xs)) e
keep_same f x xs a false e = ap (λ c. cond c (f x ∷ map f xs) (map f xs)) e

pub filter_same : {X Y : Type 0} (f : X → Y) (p : Y → Bool) (q : X → Bool) (xs : List X) → All (λ x. p (f x) ≡ q x) xs → filter p (map f xs) ≡ map f (filter q xs)
filter_same f p q [] all = refl
filter_same f p q (x ∷ xs) all =
    ap (λ ys. cond (p (f x)) (f x ∷ ys) ys) (filter_same f p q xs (All-tail (λ x. p (f x) ≡ q x) x xs all))
    ∙ keep_same f x (filter q xs) (p (f x)) (q x) (All-head (λ x. p (f x) ≡ q x) x xs all)
