-- A loop that combines each item of a list with that of another at its place.
use Rattle.std.proofs.Common.{◌≡◌, ◌<◌, ◌≤◌, ℕ, ◌+◌, List, [], ◌∷◌, map, length, take, get_or, set, refl, ap, ◌∙◌, sym, subst, arith, zero, suc, add-one}
use Rattle.std.specs.Simd.Lanes.{zip2, chunk, put_chunk}
use Rattle.g_arrays.specs.Lanes.{done}

first_block : (f : ℕ → ℕ → ℕ) (xs ys : List ℕ) (n : ℕ) → n ≤ length xs → length xs ≤ length ys → put_chunk 0 xs (zip2 f (take n xs) (take n ys)) ≡ done f xs ys n
first_block f [] ys zero a b = refl
first_block f [] ys (suc n) a b = absurd (omega arith)
first_block f (x ∷ xs) [] n a b = absurd (omega arith)
first_block f (x ∷ xs) (y ∷ ys) zero a b = refl
first_block f (x ∷ xs) (y ∷ ys) (suc n) a b = ap (λ l. f x y ∷ l) (first_block f xs ys n (omega arith) (omega arith))

block_at : (f : ℕ → ℕ → ℕ) (xs ys : List ℕ) (n at m : ℕ) → m ≡ at + n → m ≤ length xs → length xs ≤ length ys → put_chunk at (done f xs ys at) (zip2 f (chunk at n (done f xs ys at)) (chunk at n ys)) ≡ done f xs ys m
block_at f [] ys zero zero zero e a b = refl
block_at f [] ys zero zero (suc m) e a b = absurd (omega arith)
block_at f [] ys (suc n) zero m e a b = absurd (omega arith)
block_at f [] ys n (suc at) m e a b = absurd (omega arith)
block_at f (x ∷ xs) [] n at m e a b = absurd (omega arith)
block_at f (x ∷ xs) (y ∷ ys) n zero m e a b =
    let z : n ≡ m = omega arith in
    first_block f (x ∷ xs) (y ∷ ys) n (omega arith) b ∙ ap (done f (x ∷ xs) (y ∷ ys)) z
block_at f (x ∷ xs) (y ∷ ys) n (suc at) zero e a b = absurd (omega arith)
block_at f (x ∷ xs) (y ∷ ys) n (suc at) (suc m) e a b = ap (λ l. f x y ∷ l) (block_at f xs ys n at m (omega arith) (omega arith) (omega arith))

pub block_step : (f : ℕ → ℕ → ℕ) (xs ys into : List ℕ) (n at : ℕ) → at + n ≤ length xs → length xs ≤ length ys → into ≡ done f xs ys at
    → put_chunk at into (zip2 f (chunk at n into) (chunk at n ys)) ≡ done f xs ys (at + n)
block_step f xs ys into n at a b e = subst (λ l. put_chunk at l (zip2 f (chunk at n l) (chunk at n ys)) ≡ done f xs ys (at + n)) (sym e) (block_at f xs ys n at (at + n) refl a b)

one_at : {A B : Type 0} (f : A → B → A) (xs : List A) (ys : List B) (at : ℕ) (d : A) (e : B) → at < length xs → length xs ≤ length ys → set (done f xs ys at) at (f (get_or (done f xs ys at) at d) (get_or ys at e)) ≡ done f xs ys (suc at)
one_at f [] ys at d e a b = absurd (omega arith)
one_at f (x ∷ xs) [] at d e a b = absurd (omega arith)
one_at f (x ∷ xs) (y ∷ ys) zero d e a b = refl
one_at f (x ∷ xs) (y ∷ ys) (suc at) d e a b = ap (λ l. f x y ∷ l) (one_at f xs ys at d e (omega arith) (omega arith))

pub one_step : {A B : Type 0} (f : A → B → A) (xs : List A) (ys : List B) (into : List A) (at : ℕ) (d : A) (e : B) → at < length xs → length xs ≤ length ys → into ≡ done f xs ys at
    → set into at (f (get_or into at d) (get_or ys at e)) ≡ done f xs ys (at + 1)
one_step f xs ys into at d e a b is = rw add-one (subst (λ l. set l at (f (get_or l at d) (get_or ys at e)) ≡ done f xs ys (suc at)) (sym is) (one_at f xs ys at d e a b))

pub all_done : {A B : Type 0} (f : A → B → A) (xs : List A) (ys : List B) (at : ℕ) → length xs ≡ at → length xs ≤ length ys → done f xs ys at ≡ zip2 f xs ys
all_done f [] ys zero a b = refl
all_done f [] ys (suc at) a b = absurd (omega arith)
all_done f (x ∷ xs) [] at a b = absurd (omega arith)
all_done f (x ∷ xs) (y ∷ ys) zero a b = absurd (omega arith)
all_done f (x ∷ xs) (y ∷ ys) (suc at) a b = ap (λ l. f x y ∷ l) (all_done f xs ys at (omega arith) (omega arith))

pub zip2-take : {A B C : Type 0} (f : A → B → C) (xs : List A) (ys : List B) → zip2 f (take (length ys) xs) ys ≡ zip2 f xs ys
zip2-take f [] [] = refl
zip2-take f [] (y ∷ ys) = refl
zip2-take f (x ∷ xs) [] = refl
zip2-take f (x ∷ xs) (y ∷ ys) = ap (λ l. f x y ∷ l) (zip2-take f xs ys)

-- an operation on one list is one on the list and itself, which doesn't look at the second

abbrev pub alone : (ℕ → ℕ) → ℕ → ℕ → ℕ
alone f x y = f x

pub map-is_zip2 : (f : ℕ → ℕ) (xs ys : List ℕ) → length xs ≤ length ys → zip2 (alone f) xs ys ≡ map f xs
map-is_zip2 f [] ys h = refl
map-is_zip2 f (x ∷ xs) [] h = absurd (omega arith)
map-is_zip2 f (x ∷ xs) (y ∷ ys) h = ap (λ l. f x ∷ l) (map-is_zip2 f xs ys (omega arith))
