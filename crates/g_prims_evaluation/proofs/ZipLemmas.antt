-- Pairs of two lists, as far as a loop has come.
use Rattle.std.proofs.Common.{◌≡◌, ◌<◌, ◌+◌, ℕ, List, [], ◌∷◌, ◌++◌, take, drop, length, min, ◌≤◌, get_or, refl, ap, arith, suc, zero, add-one}
use Rattle.std.specs.Simd.Lanes.{zip2}

zip2_suc : {A B C : Type 0} (f : A → B → C) (xs : List A) (ys : List B) (at : ℕ) (d : A) (e : B) → at < length xs → at < length ys
    → zip2 f (take (suc at) xs) (take (suc at) ys) ≡ zip2 f (take at xs) (take at ys) ++ f (get_or xs at d) (get_or ys at e) ∷ []
zip2_suc f [] ys at d e a b = absurd (omega arith)
zip2_suc f (x ∷ xs) [] at d e a b = absurd (omega arith)
zip2_suc f (x ∷ xs) (y ∷ ys) zero d e a b = refl
zip2_suc f (x ∷ xs) (y ∷ ys) (suc at) d e a b = ap (λ l. f x y ∷ l) (zip2_suc f xs ys at d e (omega arith) (omega arith))

pub zip2_more : {A B C : Type 0} (f : A → B → C) (xs : List A) (ys : List B) (at : ℕ) (d : A) (e : B) → at < length xs → at < length ys
    → zip2 f (take (at + 1) xs) (take (at + 1) ys) ≡ zip2 f (take at xs) (take at ys) ++ f (get_or xs at d) (get_or ys at e) ∷ []
zip2_more f xs ys at d e a b = rw add-one (zip2_suc f xs ys at d e a b)

pub zip2_end : {A B C : Type 0} (f : A → B → C) (xs : List A) (ys : List B) (n : ℕ) → n ≡ min (length xs) (length ys) → zip2 f (take n xs) (take n ys) ≡ zip2 f xs ys
zip2_end f [] ys zero e = refl
zip2_end f [] ys (suc n) e = absurd (omega arith)
zip2_end f (x ∷ xs) [] zero e = refl
zip2_end f (x ∷ xs) [] (suc n) e = absurd (omega arith)
zip2_end f (x ∷ xs) (y ∷ ys) zero e = absurd (omega arith)
zip2_end f (x ∷ xs) (y ∷ ys) (suc n) e = ap (λ l. f x y ∷ l) (zip2_end f xs ys n (omega arith))

zip2_nil : {A B C : Type 0} (f : A → B → C) (xs : List A) → zip2 f xs [] ≡ []
zip2_nil f [] = refl
zip2_nil f (x ∷ xs) = refl

pub zip2_done : {A B C : Type 0} (f : A → B → C) (xs : List A) (ys : List B) (at : ℕ) → min (length xs) (length ys) ≤ at → zip2 f (drop at xs) (drop at ys) ≡ []
zip2_done f [] ys zero h = refl
zip2_done f [] ys (suc at) h = refl
zip2_done f (x ∷ xs) [] zero h = refl
zip2_done f (x ∷ xs) [] (suc at) h = zip2_nil f (drop at xs)
zip2_done f (x ∷ xs) (y ∷ ys) zero h = absurd (omega arith)
zip2_done f (x ∷ xs) (y ∷ ys) (suc at) h = zip2_done f xs ys at (omega arith)
