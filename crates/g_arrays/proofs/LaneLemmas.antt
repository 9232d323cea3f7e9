-- Lanes.
use Rattle.std.proofs.Common.{◌≡◌, ℕ, ◌+◌, ◌-◌, ◌^◌, ◌%◌, List, [], ◌∷◌, map, length, refl, ap, ◌∙◌, arith, bit_and, replicate, zero, suc}
use Rattle.std.specs.Simd.Lanes.{zip2}
use Rattle.std.proofs.lemmas.Nat.{and_mask}
use Rattle.g_types.specs.declared.rep.Rep.{Rep}
use Rattle.g_types.specs.declared.rep.Rep.TheVariants.{I8, I16, I32, I64, U8, U16, U32, U64}
use Rattle.g_types.specs.Rep.{size, half}
use Rattle.g_values.specs.Canonical.{canonical}
use Rattle.g_prims_edits.specs.Words.{on_words, result_word}
use Rattle.g_prims_edits.specs.declared.words.Operator.{Operator}

abbrev pub plus : ℕ → ℕ → ℕ
plus x y = (x + y) % 2 ^ 64

abbrev pub minus : ℕ → ℕ → ℕ
minus x y = (x + (2 ^ 64 - y)) % 2 ^ 64

-- a chain of operators, each with one word in all lanes
pub chained : (p a s : ℕ → ℕ → ℕ) (f : ℕ → ℕ) (h m : ℕ) → ((x : ℕ) → s (a (p x h) m) h ≡ f x) → (n : ℕ) (xs : List ℕ) → length xs ≡ n
    → zip2 s (zip2 a (zip2 p xs (replicate n h)) (replicate n m)) (replicate n h) ≡ map f xs
chained p a s f h m e n [] k = refl
chained p a s f h m e zero (x ∷ xs) k = absurd (omega arith)
chained p a s f h m e (suc n) (x ∷ xs) k =
    let rest = chained p a s f h m e n xs (omega arith) in
    ap (λ z. z ∷ zip2 s (zip2 a (zip2 p xs (replicate n h)) (replicate n m)) (replicate n h)) (e x) ∙ ap (λ zs. f x ∷ zs) rest

-- wrapping, by the operators of the lanes
pub wrapped_is : (r : Rep) (x : ℕ) → minus (bit_and (plus x (half r)) (size r - 1)) (half r) ≡ canonical r x
wrapped_is I8 x = let m = and_mask (plus x (half I8)) 8 in ap (λ z. minus z (half I8)) m ∙ omega arith
wrapped_is I16 x = let m = and_mask (plus x (half I16)) 16 in ap (λ z. minus z (half I16)) m ∙ omega arith
wrapped_is I32 x = let m = and_mask (plus x (half I32)) 32 in ap (λ z. minus z (half I32)) m ∙ omega arith
wrapped_is I64 x = let m = and_mask (plus x (half I64)) 64 in ap (λ z. minus z (half I64)) m ∙ omega arith
wrapped_is U8 x = let m = and_mask (plus x (half U8)) 8 in ap (λ z. minus z (half U8)) m ∙ omega arith
wrapped_is U16 x = let m = and_mask (plus x (half U16)) 16 in ap (λ z. minus z (half U16)) m ∙ omega arith
wrapped_is U32 x = let m = and_mask (plus x (half U32)) 32 in ap (λ z. minus z (half U32)) m ∙ omega arith
wrapped_is U64 x = let m = and_mask (plus x (half U64)) 64 in ap (λ z. minus z (half U64)) m ∙ omega arith

pub result_of : (o : Operator) (r : Rep) (xs ys : List ℕ) → map (canonical r) (zip2 (on_words o) xs ys) ≡ zip2 (result_word o r) xs ys
result_of o r [] ys = refl
result_of o r (x ∷ xs) [] = refl
result_of o r (x ∷ xs) (y ∷ ys) = ap (λ l. result_word o r x y ∷ l) (result_of o r xs ys)

pub with_same_after : (f : ℕ → ℕ → ℕ) (by n : ℕ) (xs : List ℕ) → length xs ≡ n → zip2 f xs (replicate n by) ≡ map (λ x. f x by) xs
with_same_after f by n [] e = refl
with_same_after f by zero (x ∷ xs) e = absurd (omega arith)
with_same_after f by (suc n) (x ∷ xs) e = ap (λ l. f x by ∷ l) (with_same_after f by n xs (omega arith))

pub with_same_before : (f : ℕ → ℕ → ℕ) (by n : ℕ) (xs : List ℕ) → length xs ≡ n → zip2 f (replicate n by) xs ≡ map (f by) xs
with_same_before f by zero [] e = refl
with_same_before f by (suc n) [] e = absurd (omega arith)
with_same_before f by zero (x ∷ xs) e = absurd (omega arith)
with_same_before f by (suc n) (x ∷ xs) e = ap (λ l. f by x ∷ l) (with_same_before f by n xs (omega arith))

pub length-zip2_same : (f : ℕ → ℕ → ℕ) (xs ys : List ℕ) (n : ℕ) → length xs ≡ n → length ys ≡ n → length (zip2 f xs ys) ≡ n
length-zip2_same f [] ys n e g = e
length-zip2_same f (x ∷ xs) [] n e g = absurd (omega arith)
length-zip2_same f (x ∷ xs) (y ∷ ys) zero e g = absurd (omega arith)
length-zip2_same f (x ∷ xs) (y ∷ ys) (suc n) e g = let h = length-zip2_same f xs ys n (omega arith) (omega arith) in omega arith
