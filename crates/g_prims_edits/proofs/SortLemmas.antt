-- Lists in ascending order.
use Rattle.std.proofs.Common.{◌≡◌, ◌<◌, ℕ, Bool, true, false, cond, List, [], ◌∷◌, length, get_or, set, refl, ap, sym, ◌∙◌, arith, zero, suc}
use Rattle.std.specs.List.{swap}
use Rattle.std.specs.List.Sorted.{IsPermutation}
use Rattle.std.proofs.lemmas.List.Sorted.{IsPermutation-keeps}
use Rattle.g_prims_definitions.specs.Arrays.{insert, sorted}

pub record IsOrder {A : Type 0} (lt : A → A → Bool) : Type 0 where
  pub apart : (a b : A) → lt a b ≡ true → lt b a ≡ false
  pub equal : (a b : A) → lt a b ≡ false → lt b a ≡ false → a ≡ b
  pub through : (a b y : A) → lt y a ≡ false → lt y b ≡ true → lt a b ≡ true

passes : {A : Type 0} (c : Bool) (x y : List A) → c ≡ true → cond c x y ≡ x
passes true x y e = refl
passes false x y e = absurd cc

fails : {A : Type 0} (c : Bool) (x y : List A) → c ≡ false → cond c x y ≡ y
fails true x y e = absurd cc
fails false x y e = refl

twice_same : {A : Type 0} (a b : A) (s : List A) → a ≡ b → a ∷ b ∷ s ≡ b ∷ a ∷ s
twice_same a b s e = ap (λ z. z ∷ b ∷ s) e ∙ ap (λ z. b ∷ z ∷ s) (sym e)

base : {A : Type 0} (lt : A → A → Bool) (o : IsOrder lt) (a b : A) (s : List A) (x y : Bool) → x ≡ lt b a → y ≡ lt a b → cond x (b ∷ a ∷ s) (a ∷ b ∷ s) ≡ cond y (a ∷ b ∷ s) (b ∷ a ∷ s)
base lt o a b s true true e f = absurd (let g : lt a b ≡ false = o.apart b a (sym e) in let h : true ≡ false = f ∙ g in cc)
base lt o a b s true false e f = refl
base lt o a b s false true e f = refl
base lt o a b s false false e f = twice_same a b s (o.equal a b (sym f) (sym e))

past : {A : Type 0} (lt : A → A → Bool) (a y : A) (s : List A) → lt y a ≡ true → insert lt a (y ∷ s) ≡ y ∷ insert lt a s
past lt a y s e = passes (lt y a) (y ∷ insert lt a s) (a ∷ y ∷ s) e

before : {A : Type 0} (lt : A → A → Bool) (a y : A) (s : List A) → lt y a ≡ false → insert lt a (y ∷ s) ≡ a ∷ y ∷ s
before lt a y s e = fails (lt y a) (y ∷ insert lt a s) (a ∷ y ∷ s) e

one_past : {A : Type 0} (lt : A → A → Bool) (o : IsOrder lt) (a b y : A) (s : List A) → lt y a ≡ false → lt y b ≡ true → insert lt a (y ∷ insert lt b s) ≡ insert lt b (a ∷ y ∷ s)
one_past lt o a b y s e f =
    before lt a y (insert lt b s) e
    ∙ ap (λ l. a ∷ l) (sym (past lt b y s f))
    ∙ sym (past lt b a (y ∷ s) (o.through a b y e f))

step : {A : Type 0} (lt : A → A → Bool) (o : IsOrder lt) (a b y : A) (s : List A) (p q : Bool) → p ≡ lt y a → q ≡ lt y b → insert lt a (insert lt b s) ≡ insert lt b (insert lt a s)
    → insert lt a (cond q (y ∷ insert lt b s) (b ∷ y ∷ s)) ≡ insert lt b (cond p (y ∷ insert lt a s) (a ∷ y ∷ s))
step lt o a b y s true true e f h = past lt a y (insert lt b s) (sym e) ∙ ap (λ l. y ∷ l) h ∙ sym (past lt b y (insert lt a s) (sym f))
step lt o a b y s false true e f h = one_past lt o a b y s (sym e) (sym f)
step lt o a b y s true false e f h = sym (one_past lt o b a y s (sym f) (sym e))
step lt o a b y s false false e f h =
    ap (λ l. cond (lt b a) (b ∷ l) (a ∷ b ∷ y ∷ s)) (before lt a y s (sym e))
    ∙ base lt o a b (y ∷ s) (lt b a) (lt a b) refl refl
    ∙ sym (ap (λ l. cond (lt a b) (a ∷ l) (b ∷ a ∷ y ∷ s)) (before lt b y s (sym f)))

insert-comm : {A : Type 0} (lt : A → A → Bool) (o : IsOrder lt) (a b : A) (s : List A) → insert lt a (insert lt b s) ≡ insert lt b (insert lt a s)
insert-comm lt o a b [] = base lt o a b [] (lt b a) (lt a b) refl refl
insert-comm lt o a b (y ∷ s) = step lt o a b y s (lt y a) (lt y b) refl refl (insert-comm lt o a b s)

exchange : {A : Type 0} (lt : A → A → Bool) (o : IsOrder lt) (l : List A) (j : ℕ) (x d : A) → j < length l → insert lt (get_or l j d) (sorted lt (set l j x)) ≡ insert lt x (sorted lt l)
exchange lt o [] j x d h = absurd (omega arith)
exchange lt o (y ∷ m) zero x d h = insert-comm lt o y x (sorted lt m)
exchange lt o (y ∷ m) (suc j) x d h =
    insert-comm lt o (get_or m j d) y (sorted lt (set m j x))
    ∙ ap (insert lt y) (exchange lt o m j x d (omega arith))
    ∙ insert-comm lt o y x (sorted lt m)

swapped : {A : Type 0} (lt : A → A → Bool) (o : IsOrder lt) (l : List A) (i j : ℕ) (d : A) → i < length l → j < length l → sorted lt (set (set l i (get_or l j d)) j (get_or l i d)) ≡ sorted lt l
swapped lt o [] i j d a b = absurd (omega arith)
swapped lt o (x ∷ l) zero zero d a b = refl
swapped lt o (x ∷ l) zero (suc j) d a b = exchange lt o l j x d (omega arith)
swapped lt o (x ∷ l) (suc i) zero d a b = exchange lt o l i x d (omega arith)
swapped lt o (x ∷ l) (suc i) (suc j) d a b = ap (insert lt x) (swapped lt o l i j d (omega arith) (omega arith))

swap_sorted : {A : Type 0} (lt : A → A → Bool) (o : IsOrder lt) (l : List A) (i j : ℕ) → i < length l → j < length l → sorted lt (swap l i j) ≡ sorted lt l
swap_sorted lt o [] i j a b = refl
swap_sorted lt o (d ∷ l) i j a b = swapped lt o (d ∷ l) i j d a b

sorted_permutation : {A : Type 0} (lt : A → A → Bool) (o : IsOrder lt) (xs ys : List A) → IsPermutation xs ys → sorted lt ys ≡ sorted lt xs
sorted_permutation lt o xs ys p = IsPermutation-keeps xs (λ l. sorted lt l ≡ sorted lt xs) refl (λ l i j a b e. swap_sorted lt o l i j a b ∙ e) ys p

abbrev pub IsAscending : {A : Type 0} → (A → A → Bool) → List A → Type 0
IsAscending lt xs = (k : ℕ) → (d : _) → suc k < length xs → lt (get_or xs (suc k) d) (get_or xs k d) ≡ false

already : {A : Type 0} (lt : A → A → Bool) (ys : List A) → IsAscending lt ys → sorted lt ys ≡ ys
already lt [] h = refl
already lt (y ∷ []) h = refl
already lt (y ∷ z ∷ zs) h =
    ap (insert lt y) (already lt (z ∷ zs) (λ k d a. h (suc k) d (omega arith)))
    ∙ before lt y z zs (h 0 y (omega arith))

-- what is ascending and has the same items is the list in order
pub is_sorted : {A : Type 0} (lt : A → A → Bool) (o : IsOrder lt) (xs ys : List A) → IsPermutation xs ys → IsAscending lt ys → ys ≡ sorted lt xs
is_sorted lt o xs ys p h = sym (already lt ys h) ∙ sorted_permutation lt o xs ys p
