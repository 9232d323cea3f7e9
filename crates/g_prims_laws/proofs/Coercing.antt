-- Sums, differences and products are the same for operands that were coerced to the wider representation first.
use Rattle.std.proofs.Common.{◌≡◌, ℕ, zero, suc, ◌+◌, ◌*◌, ◌%◌, ◌^◌, ℤ, pos, negsuc, ◌+ℤ◌, ◌-ℤ◌, List, [], ◌∷◌, map, Option, None, Some, refl, ap, ap₂, sym, ◌∙◌, arith}
use Rattle.std.specs.Prelude.{◌*ℤ◌}
use Rattle.std.specs.Simd.Lanes.{zip2}
use Rattle.std.proofs.lemmas.Int.{ints}
use Rattle.g_types.specs.declared.rep.Rep.{Rep}
use Rattle.g_types.specs.declared.rep.Rep.TheVariants.{I8, I16, I32, I64, U8, U16, U32, U64}
use Rattle.g_types.specs.Rep.{wrap, wider, size, half, IsCongruent}
use Rattle.g_types.proofs.Congruences.{congruent_to}
use Rattle.g_values.proofs.Words.{lifted, wrap_is, wrap-wrap}
use Rattle.g_values.specs.Coerce.{coerced_numbers}
use Rattle.g_values.specs.Number.{num_of}
use Rattle.g_values.specs.Numbers.{Numbers}
use Rattle.g_values.specs.declared.num.Num.{Num}
use Rattle.g_values.specs.declared.value.Value.{Value, out-Value}
use Rattle.g_values.specs.declared.value.Value.TheVariants as value
use Rattle.g_values.specs.declared.value.Value.TheOpen.{Value-F}
use Rattle.g_prims_definitions.specs.Arithmetic.{arithmetic, arithmetic_at, combined, converted_at, rep_at, left, right, zipped, number, numbers_of, plus, minus, times}
use Rattle.g_prims_edits.proofs.NumLemmas.{same_wrapped}
use Rattle.g_prims_laws.specs.Laws.{CoercesFirst}

-- numbers that are congruent wrap to the same

same_up : (r : Rep) (m j : ℕ) → (m + j * size r + half r) % size r ≡ (m + half r) % size r
same_up I8 m j = omega arith
same_up I16 m j = omega arith
same_up I32 m j = omega arith
same_up I64 m j = omega arith
same_up U8 m j = omega arith
same_up U16 m j = omega arith
same_up U32 m j = omega arith
same_up U64 m j = omega arith

congruent_up : (r : Rep) (a b : ℤ) (j : ℕ) → a ≡ b +ℤ pos (j * size r) → wrap r a ≡ wrap r b
congruent_up r a b j e =
    let p = lifted b in
    let l = p.2.lift in
    let up = j * size r in
    wrap_is r a p.0 (p.1 + up) (record { lift = omega (arith, ints) }) ∙ ap (λ k. pos k -ℤ pos (half r)) (same_up r p.1 j) ∙ sym (wrap_is r b p.0 p.1 p.2)

times_up : (j s : ℕ) → pos j *ℤ pos s ≡ pos (j * s)
times_up j s = omega (arith, ints)

times_down : (j s : ℕ) → negsuc j *ℤ pos s +ℤ pos (suc j * s) ≡ pos 0
times_down j s = omega (arith, ints)

congruent : (r : Rep) (a b q : ℤ) → a ≡ b +ℤ (q *ℤ pos (size r)) → wrap r a ≡ wrap r b
congruent r a b (pos j) e = congruent_up r a b j (e ∙ ap (λ z. b +ℤ z) (times_up j (size r)))
congruent r a b (negsuc j) e =
    let z = negsuc j *ℤ pos (size r) in
    let up = suc j * size r in
    let d : z +ℤ pos up ≡ pos 0 = times_down j (size r) in
    sym (congruent_up r b a (suc j) (omega (arith, ints)))

-- operations that keep congruence

abbrev Keeps : (ℤ → ℤ → ℤ) → Type 0
Keeps f = (r : Rep) (x y : ℤ) → wrap r (f (wrap r x) (wrap r y)) ≡ wrap r (f x y)

sum_of : (r : Rep) (a x p b y q : ℤ) → a ≡ x +ℤ (p *ℤ pos (size r)) → b ≡ y +ℤ (q *ℤ pos (size r)) → a +ℤ b ≡ (x +ℤ y) +ℤ ((p +ℤ q) *ℤ pos (size r))
sum_of I8 a x p b y q e f = omega (arith, ints)
sum_of I16 a x p b y q e f = omega (arith, ints)
sum_of I32 a x p b y q e f = omega (arith, ints)
sum_of I64 a x p b y q e f = omega (arith, ints)
sum_of U8 a x p b y q e f = omega (arith, ints)
sum_of U16 a x p b y q e f = omega (arith, ints)
sum_of U32 a x p b y q e f = omega (arith, ints)
sum_of U64 a x p b y q e f = omega (arith, ints)

difference_of : (r : Rep) (a x p b y q : ℤ) → a ≡ x +ℤ (p *ℤ pos (size r)) → b ≡ y +ℤ (q *ℤ pos (size r)) → a -ℤ b ≡ (x -ℤ y) +ℤ ((p -ℤ q) *ℤ pos (size r))
difference_of I8 a x p b y q e f = omega (arith, ints)
difference_of I16 a x p b y q e f = omega (arith, ints)
difference_of I32 a x p b y q e f = omega (arith, ints)
difference_of I64 a x p b y q e f = omega (arith, ints)
difference_of U8 a x p b y q e f = omega (arith, ints)
difference_of U16 a x p b y q e f = omega (arith, ints)
difference_of U32 a x p b y q e f = omega (arith, ints)
difference_of U64 a x p b y q e f = omega (arith, ints)

keeps_plus : Keeps plus
keeps_plus r x y =
    let p = congruent_to r x (wrap r x) refl in
    let q = congruent_to r y (wrap r y) refl in
    congruent r (wrap r x +ℤ wrap r y) (x +ℤ y) (p.0 +ℤ q.0) (sum_of r (wrap r x) x p.0 (wrap r y) y q.0 p.1 q.1)

keeps_minus : Keeps minus
keeps_minus r x y =
    let p = congruent_to r x (wrap r x) refl in
    let q = congruent_to r y (wrap r y) refl in
    congruent r (wrap r x -ℤ wrap r y) (x -ℤ y) (p.0 -ℤ q.0) (difference_of r (wrap r x) x p.0 (wrap r y) y q.0 p.1 q.1)

same_sums : (r : Rep) (a b x y : ℤ) → wrap r a ≡ wrap r b → wrap r x ≡ wrap r y → wrap r (a +ℤ x) ≡ wrap r (b +ℤ y)
same_sums r a b x y e f = sym (keeps_plus r a x) ∙ ap₂ (λ u v. wrap r (u +ℤ v)) e f ∙ keeps_plus r b y

same_differences : (r : Rep) (a b x y : ℤ) → wrap r a ≡ wrap r b → wrap r x ≡ wrap r y → wrap r (a -ℤ x) ≡ wrap r (b -ℤ y)
same_differences r a b x y e f = sym (keeps_minus r a x) ∙ ap₂ (λ u v. wrap r (u -ℤ v)) e f ∙ keeps_minus r b y

one_more : (a : ℤ) (n : ℕ) → a *ℤ pos (suc n) ≡ (a *ℤ pos n) +ℤ a
one_more a n = omega (arith, ints)

one_less : (a : ℤ) (n : ℕ) → a *ℤ negsuc (suc n) ≡ (a *ℤ negsuc n) -ℤ a
one_less a n = omega (arith, ints)

times_none : (a : ℤ) → a *ℤ pos 0 ≡ pos 0
times_none a = omega (arith, ints)

times_minus_one : (a : ℤ) → a *ℤ negsuc 0 ≡ pos 0 -ℤ a
times_minus_one a = omega (arith, ints)

same_products : (r : Rep) (a b : ℤ) → wrap r a ≡ wrap r b → (y : ℤ) → wrap r (a *ℤ y) ≡ wrap r (b *ℤ y)
same_products r a b e (pos zero) = ap (wrap r) (times_none a ∙ sym (times_none b))
same_products r a b e (pos (suc n)) = ap (wrap r) (one_more a n) ∙ same_sums r (a *ℤ pos n) (b *ℤ pos n) a b (same_products r a b e (pos n)) e ∙ sym (ap (wrap r) (one_more b n))
same_products r a b e (negsuc zero) = ap (wrap r) (times_minus_one a) ∙ same_differences r (pos 0) (pos 0) a b refl e ∙ sym (ap (wrap r) (times_minus_one b))
same_products r a b e (negsuc (suc n)) =
    ap (wrap r) (one_less a n) ∙ same_differences r (a *ℤ negsuc n) (b *ℤ negsuc n) a b (same_products r a b e (negsuc n)) e ∙ sym (ap (wrap r) (one_less b n))

turned : (x y : ℤ) → x *ℤ y ≡ y *ℤ x
turned x y = omega (arith, ints)

keeps_times : Keeps times
keeps_times r x y =
    same_products r (wrap r x) x (wrap-wrap r x) (wrap r y)
    ∙ ap (wrap r) (turned x (wrap r y))
    ∙ same_products r (wrap r y) y (wrap-wrap r y) x
    ∙ ap (wrap r) (turned y x)

-- values

pub wider_itself : (r : Rep) → wider r r ≡ r
wider_itself I8 = refl
wider_itself I16 = refl
wider_itself I32 = refl
wider_itself I64 = refl
wider_itself U8 = refl
wider_itself U16 = refl
wider_itself U32 = refl
wider_itself U64 = refl

right_all : (f : ℤ → ℤ → ℤ) → Keeps f → (r : Rep) (x : ℤ) (ys : List ℤ) → map (combined f r (wrap r x)) (map (wrap r) ys) ≡ map (combined f r x) ys
right_all f k r x [] = refl
right_all f k r x (y ∷ ys) = ap₂ (λ z zs. z ∷ zs) (k r x y) (right_all f k r x ys)

left_all : (f : ℤ → ℤ → ℤ) → Keeps f → (r : Rep) (xs : List ℤ) (y : ℤ) → map (λ x. combined f r x (wrap r y)) (map (wrap r) xs) ≡ map (λ x. combined f r x y) xs
left_all f k r [] y = refl
left_all f k r (x ∷ xs) y = ap₂ (λ z zs. z ∷ zs) (k r x y) (left_all f k r xs y)

both_all : (f : ℤ → ℤ → ℤ) → Keeps f → (r : Rep) (xs ys : List ℤ) → zip2 (combined f r) (map (wrap r) xs) (map (wrap r) ys) ≡ zip2 (combined f r) xs ys
both_all f k r [] [] = refl
both_all f k r [] (y ∷ ys) = refl
both_all f k r (x ∷ xs) [] = refl
both_all f k r (x ∷ xs) (y ∷ ys) = ap₂ (λ z zs. z ∷ zs) (k r x y) (both_all f k r xs ys)

open_both : (f : ℤ → ℤ → ℤ) (v w : Value) (l m : Value-F Value) → out-Value v ≡ l → out-Value w ≡ m → arithmetic f v w ≡ arithmetic_at f l m
open_both f v w l m e g = ap (λ x. arithmetic_at f x (out-Value w)) e ∙ ap (arithmetic_at f l) g

rep_or : Rep → Option Rep → Rep
rep_or d None = d
rep_or d (Some u) = u

wider_of : (a b r s : Rep) → Some a ≡ Some r → Some b ≡ Some s → wider a b ≡ wider r s
unfolding rep_or
wider_of a b r s e g = ap₂ wider (ap (rep_or a) e) (ap (rep_or b) g)

two_numbers : (f : ℤ → ℤ → ℤ) → Keeps f → (x y : Num) (w : Rep) → number w (f x.n y.n) ≡ arithmetic f (number w x.n) (number w y.n)
two_numbers f k x y w = sym (
    open_both f (number w x.n) (number w y.n) (Value-F.Num (num_of w x.n)) (Value-F.Num (num_of w y.n)) (value.outs-Num (num_of w x.n)) (value.outs-Num (num_of w y.n))
    ∙ ap (λ u. number u (f (wrap w x.n) (wrap w y.n))) (wider_itself w)
    ∙ ap value.Num (same_wrapped w (f (wrap w x.n) (wrap w y.n)) (f x.n y.n) (k w x.n y.n)))

number_and_array : (f : ℤ → ℤ → ℤ) → Keeps f → (x : Num) (ys : Numbers) (w : Rep) → value.Nums (right f w x.n ys) ≡ arithmetic f (number w x.n) (value.Nums (coerced_numbers w ys))
number_and_array f k x ys w = sym (
    open_both f (number w x.n) (value.Nums (coerced_numbers w ys)) (Value-F.Num (num_of w x.n)) (Value-F.Nums (coerced_numbers w ys)) (value.outs-Num (num_of w x.n)) (value.outs-Nums (coerced_numbers w ys))
    ∙ ap (λ u. value.Nums (right f u (wrap w x.n) (coerced_numbers w ys))) (wider_itself w)
    ∙ ap (λ l. value.Nums (numbers_of w l)) (right_all f k w x.n ys.all))

array_and_number : (f : ℤ → ℤ → ℤ) → Keeps f → (xs : Numbers) (y : Num) (w : Rep) → value.Nums (left f w xs y.n) ≡ arithmetic f (value.Nums (coerced_numbers w xs)) (number w y.n)
array_and_number f k xs y w = sym (
    open_both f (value.Nums (coerced_numbers w xs)) (number w y.n) (Value-F.Nums (coerced_numbers w xs)) (Value-F.Num (num_of w y.n)) (value.outs-Nums (coerced_numbers w xs)) (value.outs-Num (num_of w y.n))
    ∙ ap (λ u. value.Nums (left f u (coerced_numbers w xs) (wrap w y.n))) (wider_itself w)
    ∙ ap (λ l. value.Nums (numbers_of w l)) (left_all f k w xs.all y.n))

two_arrays : (f : ℤ → ℤ → ℤ) → Keeps f → (xs ys : Numbers) (w : Rep) → value.Nums (numbers_of w (zip2 (combined f w) xs.all ys.all)) ≡ arithmetic f (value.Nums (coerced_numbers w xs)) (value.Nums (coerced_numbers w ys))
two_arrays f k xs ys w = sym (
    open_both f (value.Nums (coerced_numbers w xs)) (value.Nums (coerced_numbers w ys)) (Value-F.Nums (coerced_numbers w xs)) (Value-F.Nums (coerced_numbers w ys)) (value.outs-Nums (coerced_numbers w xs)) (value.outs-Nums (coerced_numbers w ys))
    ∙ ap (λ u. value.Nums (numbers_of u (zip2 (combined f u) (map (wrap w) xs.all) (map (wrap w) ys.all)))) (wider_itself w)
    ∙ ap (λ l. value.Nums (numbers_of w l)) (both_all f k w xs.all ys.all))

at_rep : (f : ℤ → ℤ → ℤ) → Keeps f → (l m : Value-F Value) (r s : Rep) → rep_at l ≡ Some r → rep_at m ≡ Some s → arithmetic_at f l m ≡ arithmetic f (converted_at (wider r s) l) (converted_at (wider r s) m)
at_rep f k (Value-F.Num x) (Value-F.Num y) r s e g = ap (λ u. number u (f x.n y.n)) (wider_of x.rep y.rep r s e g) ∙ two_numbers f k x y (wider r s)
at_rep f k (Value-F.Num x) (Value-F.Nums ys) r s e g = ap (λ u. value.Nums (right f u x.n ys)) (wider_of x.rep ys.rep r s e g) ∙ number_and_array f k x ys (wider r s)
at_rep f k (Value-F.Nums xs) (Value-F.Num y) r s e g = ap (λ u. value.Nums (left f u xs y.n)) (wider_of xs.rep y.rep r s e g) ∙ array_and_number f k xs y (wider r s)
at_rep f k (Value-F.Nums xs) (Value-F.Nums ys) r s e g =
    ap (λ u. value.Nums (numbers_of u (zip2 (combined f u) xs.all ys.all))) (wider_of xs.rep ys.rep r s e g) ∙ two_arrays f k xs ys (wider r s)
at_rep f k _ _ r s e g = absurd cc

coerces : (f : ℤ → ℤ → ℤ) → Keeps f → CoercesFirst f
coerces f k x y r s = at_rep f k (out-Value x) (out-Value y) r s

pub coerces_plus : CoercesFirst plus
coerces_plus = coerces plus keeps_plus

pub coerces_minus : CoercesFirst minus
coerces_minus = coerces minus keeps_minus

pub coerces_times : CoercesFirst times
coerces_times = coerces times keeps_times
