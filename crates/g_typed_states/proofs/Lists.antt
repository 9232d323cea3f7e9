-- Elements of lists, and small facts on tests and options.
use Rattle.std.proofs.Common.{◌≡◌, ◌⊎◌, inl, inr, ⊎_elim, Bool, true, false, ◌&&◌, ℕ, zero, suc, List, [], ◌∷◌, ◌++◌, map, cond, Option, Some, None, refl, ap, sym, ◌∙◌, subst}
use Rattle.std.specs.Prelude.{is_some, slice_get, filter}
use Rattle.g_frames.proofs.RunLemmas.{refute, some_is}
use Rattle.g_typed_states.specs.Places.{Among, first, later}

pub and_left : (a b : Bool) → (a && b) ≡ true → a ≡ true
and_left true b h = refl
and_left false b h = absurd (refute h)

pub and_right : (a b : Bool) → (a && b) ≡ true → b ≡ true
and_right true b h = h
and_right false b h = absurd (refute h)

pub none_is : {A : Type 0} (x : A) → None ≡ Some x → ⊥
none_is x h = refute (ap is_some h)

pub is_there : {A : Type 0} (o : Option A) → is_some o ≡ true → (x : A) × (o ≡ Some x)
is_there None h = absurd (refute h)
is_there (Some x) h = (x, refl)

pub no_suc : (n : ℕ) → 0 ≡ suc n → ⊥
no_suc n h = cc

pub one_less : (m n : ℕ) → suc m ≡ suc n → m ≡ n
one_less m n h = cc

-- ---- elements

pub no_place : {A : Type 0} (x : A) → Among x [] → ⊥
no_place x at = elim at [ ]

pub among_cases : {A : Type 0} (x y : A) (xs : List A) → Among x (y ∷ xs) → (y ≡ x) ⊎ Among x xs
among_cases x y xs first = inl refl
among_cases x y xs (later at) = inr at

pub among_head : {A : Type 0} (x y : A) (xs : List A) → y ≡ x → Among x (y ∷ xs)
among_head {A = A} x y xs same = subst (λ (z : A). Among x (z ∷ xs)) (sym same) first

pub among_append : {A : Type 0} (x : A) (xs ys : List A) → Among x (xs ++ ys) → Among x xs ⊎ Among x ys
among_append x [] ys at = inr at
among_append {A = A} x (z ∷ xs) ys at = by (among_cases x z (xs ++ ys) at) (among_append x xs ys)
  where
    more : Among x xs ⊎ Among x ys → Among x (z ∷ xs) ⊎ Among x ys
    more (inl l) = inl (later l)
    more (inr r) = inr r

    by : (z ≡ x) ⊎ Among x (xs ++ ys) → (Among x (xs ++ ys) → Among x xs ⊎ Among x ys) → Among x (z ∷ xs) ⊎ Among x ys
    by (inl same) rest = inl (among_head x z xs same)
    by (inr at) rest = more (rest at)

pub among_left : {A : Type 0} (x : A) (xs ys : List A) → Among x xs → Among x (xs ++ ys)
among_left x [] ys at = absurd (no_place x at)
among_left x (z ∷ xs) ys at = ⊎_elim (λ same. among_head x z (xs ++ ys) same) (λ l. later (among_left x xs ys l)) (among_cases x z xs at)

pub among_right : {A : Type 0} (x : A) (xs ys : List A) → Among x ys → Among x (xs ++ ys)
among_right x [] ys at = at
among_right x (z ∷ xs) ys at = later (among_right x xs ys at)

-- an element that passes a test is among those that do
pub among_filter : {A : Type 0} (test : A → Bool) (x : A) (xs : List A) → Among x (filter test xs) → Among x xs
among_filter test x [] at = at
among_filter {A = A} test x (y ∷ xs) at = by (test y) at (among_filter test x xs)
  where
    by : (b : Bool) → Among x (cond b (y ∷ filter test xs) (filter test xs)) → (Among x (filter test xs) → Among x xs) → Among x (y ∷ xs)
    by true at rest = ⊎_elim (λ same. among_head x y xs same) (λ l. later (rest l)) (among_cases x y (filter test xs) at)
    by false at rest = later (rest at)

pub filter_passes : {A : Type 0} (test : A → Bool) (x : A) (xs : List A) → Among x (filter test xs) → test x ≡ true
filter_passes test x [] at = absurd (no_place x at)
filter_passes {A = A} test x (y ∷ xs) at = by (test y) refl at (filter_passes test x xs)
  where
    by : (b : Bool) → test y ≡ b → Among x (cond b (y ∷ filter test xs) (filter test xs)) → (Among x (filter test xs) → test x ≡ true) → test x ≡ true
    by true is at rest = ⊎_elim (λ same. ap test (sym same) ∙ is) rest (among_cases x y (filter test xs) at)
    by false is at rest = rest at

pub among_at : {A : Type 0} (xs : List A) (k : ℕ) (x : A) → slice_get xs k ≡ Some x → Among x xs
among_at [] k x at = absurd (none_is x at)
among_at (y ∷ xs) zero x at = among_head x y xs (some_is y x at)
among_at (y ∷ xs) (suc k) x at = later (among_at xs k x at)

pub among_map : {A B : Type 0} (f : A → B) (x : A) (xs : List A) → Among x xs → Among (f x) (map f xs)
among_map f x [] at = absurd (no_place x at)
among_map f x (y ∷ xs) at = ⊎_elim (λ same. among_head (f x) (f y) (map f xs) (ap f same)) (λ l. later (among_map f x xs l)) (among_cases x y xs at)
