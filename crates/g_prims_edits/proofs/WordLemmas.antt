-- Operations on words are operations on their numbers.
use Rattle.std.proofs.Common.{◌≡◌, ℕ, ℤ, ◌+◌, ◌-◌, ◌*◌, ◌%◌, ◌^◌, pos, negsuc, ◌+ℤ◌, ◌-ℤ◌, ◌*ℤ◌, List, [], ◌∷◌, map, refl, ap, ◌∙◌, sym, arith, suc}
use Rattle.std.specs.Prelude.{neg_ℤ}
use Rattle.std.specs.Simd.Lanes.{zip2}
use Rattle.std.proofs.lemmas.Nat.{mul-mod_second}
use Rattle.std.proofs.lemmas.Int.{ints}
use Rattle.std.proofs.lemmas.List.Elements.{All-nil, All-cons, All-head, All-tail}
use Rattle.g_types.specs.declared.rep.Rep.{Rep}
use Rattle.g_types.specs.Rep.{wrap}
use Rattle.g_values.specs.Canonical.{canonical}
use Rattle.g_values.specs.Numbers.{AreWords, number, word}
use Rattle.g_values.proofs.Words.{lifted, word_is, word-pos, word-add, word-number, number-word, wrap-wrap, wrap-word, canonical-canonical, word-below}
use Rattle.g_prims_definitions.specs.Arithmetic.{combined}
use Rattle.g_prims_edits.specs.declared.words.Operator.{Operator}
use Rattle.g_prims_edits.specs.declared.words.Operator.TheVariants.{Plus, Minus, Times, And, Or, Xor}
use Rattle.g_prims_edits.specs.Words.{on_numbers, on_words, result_word}

-- the number of a wrapped word
pub number-canonical : (r : Rep) (w : ℕ) → number r (canonical r w) ≡ wrap r (pos w)
number-canonical r w = ap (number r) (sym (word-number r w)) ∙ number-word r (number r w) ∙ wrap-wrap r (pos w)

pub word-sub : (a b : ℤ) → word (a -ℤ b) ≡ (word a + (2 ^ 64 - word b)) % 2 ^ 64
word-sub a b =
    let p = lifted a in
    let q = lifted b in
    let pl = p.2.lift in
    let ql = q.2.lift in
    let e = word_is (a -ℤ b) (p.0 + q.1) (p.1 + q.0 * 2 ^ 64 + q.1 * (2 ^ 64 - 1)) (record { lift = omega (arith, ints) }) in
    let x = word_is a p.0 p.1 p.2 in
    let y = word_is b q.0 q.1 q.2 in
    omega arith

times_mod : (a b : ℕ) → a % 2 ^ 64 * (b % 2 ^ 64) % 2 ^ 64 ≡ a * b % 2 ^ 64
times_mod a b =
    let one : a % 2 ^ 64 * b ≡ b * (a % 2 ^ 64) = omega arith in
    let two : b * a ≡ a * b = omega arith in
    mul-mod_second (a % 2 ^ 64) b (2 ^ 64) ∙ ap (λ n. n % 2 ^ 64) one ∙ mul-mod_second b a (2 ^ 64) ∙ ap (λ n. n % 2 ^ 64) two

times_words : (x y : ℤ) (a b : ℕ) → word x ≡ a % 2 ^ 64 → word y ≡ b % 2 ^ 64 → word x * word y % 2 ^ 64 ≡ a * b % 2 ^ 64
times_words x y a b e f = ap (λ m. m * word y % 2 ^ 64) e ∙ ap (λ n. a % 2 ^ 64 * n % 2 ^ 64) f ∙ times_mod a b

word-natural : (a : ℕ) → word (pos a) ≡ a % 2 ^ 64
word-natural a = word_is (pos a) 0 a (record { lift = omega (arith, ints) })

word-neg : (n : ℕ) → word (neg_ℤ (pos n)) ≡ n * (2 ^ 64 - 1) % 2 ^ 64
word-neg n = word_is (neg_ℤ (pos n)) n (n * (2 ^ 64 - 1)) (record { lift = omega (arith, ints) })

word-negsuc : (n : ℕ) → word (negsuc n) ≡ suc n * (2 ^ 64 - 1) % 2 ^ 64
word-negsuc n = word_is (negsuc n) (suc n) (suc n * (2 ^ 64 - 1)) (record { lift = omega (arith, ints) })

two_negatives : (a b : ℕ) → suc a * (2 ^ 64 - 1) * (suc b * (2 ^ 64 - 1)) % 2 ^ 64 ≡ suc a * suc b % 2 ^ 64
two_negatives a b =
    let n = suc a * suc b in
    let k = n * (2 ^ 64 - 2) in
    let e : suc a * (2 ^ 64 - 1) * (suc b * (2 ^ 64 - 1)) ≡ n + k * 2 ^ 64 = omega arith in
    ap (λ m. m % 2 ^ 64) e ∙ omega arith

pub word-mul : (a b : ℤ) → word (a *ℤ b) ≡ word a * word b % 2 ^ 64
word-mul (pos a) (pos b) = word-natural (a * b) ∙ sym (times_words (pos a) (pos b) a b (word-natural a) (word-natural b))
word-mul (pos a) (negsuc b) =
    let e : a * suc b * (2 ^ 64 - 1) ≡ a * (suc b * (2 ^ 64 - 1)) = omega arith in
    word-neg (a * suc b) ∙ ap (λ n. n % 2 ^ 64) e ∙ sym (times_words (pos a) (negsuc b) a (suc b * (2 ^ 64 - 1)) (word-natural a) (word-negsuc b))
word-mul (negsuc a) (pos b) =
    let e : suc a * b * (2 ^ 64 - 1) ≡ suc a * (2 ^ 64 - 1) * b = omega arith in
    word-neg (suc a * b) ∙ ap (λ n. n % 2 ^ 64) e ∙ sym (times_words (negsuc a) (pos b) (suc a * (2 ^ 64 - 1)) b (word-negsuc a) (word-natural b))
word-mul (negsuc a) (negsuc b) =
    word-natural (suc a * suc b) ∙ sym (two_negatives a b) ∙ sym (times_words (negsuc a) (negsuc b) (suc a * (2 ^ 64 - 1)) (suc b * (2 ^ 64 - 1)) (word-negsuc a) (word-negsuc b))

pub word-of_result : (o : Operator) (x y : ℤ) → word (pos (on_words o (word x) (word y))) ≡ word (on_numbers o x y)
word-of_result Plus x y = ap (λ w. word (pos w)) (sym (word-add x y)) ∙ word-pos (word (x +ℤ y)) (word-below (x +ℤ y))
word-of_result Minus x y = ap (λ w. word (pos w)) (sym (word-sub x y)) ∙ word-pos (word (x -ℤ y)) (word-below (x -ℤ y))
word-of_result Times x y = ap (λ w. word (pos w)) (sym (word-mul x y)) ∙ word-pos (word (x *ℤ y)) (word-below (x *ℤ y))
word-of_result And x y = refl
word-of_result Or x y = refl
word-of_result Xor x y = refl

pub number-result : (o : Operator) (r : Rep) (x y : ℤ) → number r (result_word o r (word x) (word y)) ≡ combined (on_numbers o) r x y
number-result o r x y = number-canonical r (on_words o (word x) (word y)) ∙ wrap-word r (pos (on_words o (word x) (word y))) (on_numbers o x y) (word-of_result o x y)

abbrev pub IsWord : Rep → ℕ → Type 0
IsWord r w = word (number r w) ≡ w

-- words of two arrays

pub are_words-zip2 : (o : Operator) (r : Rep) (xs ys : List ℕ) → AreWords r (zip2 (result_word o r) xs ys)
are_words-zip2 o r [] ys = All-nil (IsWord r)
are_words-zip2 o r (x ∷ xs) [] = All-nil (IsWord r)
are_words-zip2 o r (x ∷ xs) (y ∷ ys) = All-cons (IsWord r) (result_word o r x y) (zip2 (result_word o r) xs ys) (canonical-canonical r (on_words o x y)) (are_words-zip2 o r xs ys)

one-zip2 : (o : Operator) (r a b : Rep) (u v : ℕ) → word (number a u) ≡ u → word (number b v) ≡ v → number r (result_word o r u v) ≡ combined (on_numbers o) r (number a u) (number b v)
one-zip2 o r a b u v e f =
    ap (λ x. number r (result_word o r x v)) (sym e) ∙ ap (λ y. number r (result_word o r (word (number a u)) y)) (sym f) ∙ number-result o r (number a u) (number b v)

pub numbers-zip2 : (o : Operator) (r a b : Rep) (xs ys : List ℕ) → AreWords a xs → AreWords b ys
    → map (number r) (zip2 (result_word o r) xs ys) ≡ zip2 (combined (on_numbers o) r) (map (number a) xs) (map (number b) ys)
numbers-zip2 o r a b [] ys p q = refl
numbers-zip2 o r a b (x ∷ xs) [] p q = refl
numbers-zip2 o r a b (x ∷ xs) (y ∷ ys) p q =
    let here = one-zip2 o r a b x y (All-head (IsWord a) x xs p) (All-head (IsWord b) y ys q) in
    let rest = numbers-zip2 o r a b xs ys (All-tail (IsWord a) x xs p) (All-tail (IsWord b) y ys q) in
    ap (λ n. n ∷ map (number r) (zip2 (result_word o r) xs ys)) here ∙ ap (λ l. combined (on_numbers o) r (number a x) (number b y) ∷ l) rest

-- the words of an array, each with that of one number

pub are_words-left : (o : Operator) (r : Rep) (xs : List ℕ) (v : ℕ) → AreWords r (map (λ w. result_word o r w v) xs)
are_words-left o r [] v = All-nil (IsWord r)
are_words-left o r (x ∷ xs) v = All-cons (IsWord r) (result_word o r x v) (map (λ w. result_word o r w v) xs) (canonical-canonical r (on_words o x v)) (are_words-left o r xs v)

pub are_words-right : (o : Operator) (r : Rep) (xs : List ℕ) (v : ℕ) → AreWords r (map (λ w. result_word o r v w) xs)
are_words-right o r [] v = All-nil (IsWord r)
are_words-right o r (x ∷ xs) v = All-cons (IsWord r) (result_word o r v x) (map (λ w. result_word o r v w) xs) (canonical-canonical r (on_words o v x)) (are_words-right o r xs v)

pub numbers-left : (o : Operator) (r a : Rep) (xs : List ℕ) (y : ℤ) → AreWords a xs → map (number r) (map (λ w. result_word o r w (word y)) xs) ≡ map (λ x. combined (on_numbers o) r x y) (map (number a) xs)
numbers-left o r a [] y p = refl
numbers-left o r a (x ∷ xs) y p =
    let here = ap (λ w. number r (result_word o r w (word y))) (sym (All-head (IsWord a) x xs p)) ∙ number-result o r (number a x) y in
    let rest = numbers-left o r a xs y (All-tail (IsWord a) x xs p) in
    ap (λ n. n ∷ map (number r) (map (λ w. result_word o r w (word y)) xs)) here ∙ ap (λ l. combined (on_numbers o) r (number a x) y ∷ l) rest

pub numbers-right : (o : Operator) (r a : Rep) (xs : List ℕ) (y : ℤ) → AreWords a xs → map (number r) (map (λ w. result_word o r (word y) w) xs) ≡ map (combined (on_numbers o) r y) (map (number a) xs)
numbers-right o r a [] y p = refl
numbers-right o r a (x ∷ xs) y p =
    let here = ap (λ w. number r (result_word o r (word y) w)) (sym (All-head (IsWord a) x xs p)) ∙ number-result o r y (number a x) in
    let rest = numbers-right o r a xs y (All-tail (IsWord a) x xs p) in
    ap (λ n. n ∷ map (number r) (map (λ w. result_word o r (word y) w) xs)) here ∙ ap (λ l. combined (on_numbers o) r y (number a x) ∷ l) rest
