-- Numbers that are kept at 2^63, and lists of numbers.
use Rattle.std.proofs.Common.{◌≡◌, ◌⊎◌, inl, inr, ⊎_elim, ℕ, zero, suc, ◌+◌, ◌*◌, ◌<◌, ◌≤◌, Bool, true, false, ◌==◌, List, [], ◌∷◌, ◌++◌, length, get_or, set, replicate, refl, sym, ap, ◌∙◌, arith, length-append}
use Rattle.std.specs.Prelude.{slice_index, slice_set}
use Rattle.std.proofs.lemmas.Bool.{cases_eq, cases_lt}
use Rattle.std.proofs.lemmas.List.{get_or-set_same, get_or-set_other}
use Rattle.g_diagram.specs.declared.hierarchy.Clones.{Clones}
use Rattle.g_diagram.specs.declared.hierarchy.Clones.TheVariants.{NonReentrant, Preallocated, Pool}
use Rattle.g_hier.specs.Counts.{one_if, told, spaces_for, count_for}
use Rattle.g_hier.specs.Settling.{times, total, pushed, freed}

abbrev pub bound : ℕ
bound = 9223372036854775808

pub told_le : (a : ℕ) → told a ≤ bound
told_le a = omega arith

pub told_below : (a : ℕ) → a ≤ bound → told a ≡ a
told_below a h = omega arith

pub told_above : (a : ℕ) → bound ≤ a → told a ≡ bound
told_above a h = omega arith

pub told_add : (a b : ℕ) → told (told a + b) ≡ told (a + b)
told_add a b = omega arith

product_ge : (b k : ℕ) → 0 < k → b ≤ b * k
product_ge b zero h = absurd (omega arith)
product_ge b (suc k) h = grind arith

pub told_product : (a b k : ℕ) → told (told a + told b * k) ≡ told (a + b * k)
told_product a b k = ⊎_elim
    (λ small. ap (λ x. told (told a + x * k)) (told_below b (omega arith)) ∙ told_add a (b * k))
    (λ large. large_case k large)
    (cases_lt b bound)
  where
    large_case : (k : ℕ) → bound ≤ b → told (told a + told b * k) ≡ told (a + b * k)
    large_case zero large = omega arith
    large_case (suc j) large =
        let p = product_ge (told b) (suc j) (omega arith) in
        let q = product_ge b (suc j) (omega arith) in
        let r = told_above b large in
        told_above (told a + told b * suc j) (omega (arith, p, r)) ∙ sym (told_above (a + b * suc j) (omega (arith, q)))

told_spaces : (c : Clones) (m n : ℕ) → m ≡ told n → spaces_for c m ≤ bound → spaces_for c m ≡ told (spaces_for c n)
told_spaces NonReentrant zero zero e h = refl
told_spaces Preallocated zero zero e h = refl
told_spaces (Pool k) zero zero e h = refl
told_spaces c zero (suc n) e h = absurd (omega (arith, e))
told_spaces c (suc m) zero e h = absurd (omega (arith, e))
told_spaces NonReentrant (suc m) (suc n) e h = refl
told_spaces Preallocated (suc m) (suc n) e h = e
told_spaces (Pool k) (suc m) (suc n) e h = sym (told_below k h)

pub told_count : (is_main : Bool) (c : Clones) (m n : ℕ) → m ≡ told n → count_for is_main c m ≤ bound → count_for is_main c m ≡ told (count_for is_main c n)
told_count true c m n e h = refl
told_count false c m n e h = told_spaces c m n e h

pub one_if_le : (b : Bool) → one_if b ≤ 1
one_if_le true = omega arith
one_if_le false = omega arith

pub one_same : (a b : ℕ) → a ≡ b → one_if (a == b) ≡ 1
one_same a b e = let k : (a == b) ≡ true = grind (arith, e) in ap one_if k

pub one_apart : (a b : ℕ) → (a ≡ b → ⊥) → one_if (a == b) ≡ 0
one_apart a b apart = let k : (a == b) ≡ false = grind (arith, apart) in ap one_if k

pub times_push : (v : ℕ) (xs : List ℕ) (x : ℕ) → times v (xs ++ x ∷ []) ≡ times v xs + one_if (x == v)
times_push v [] x = omega arith
times_push v (y ∷ ys) x = omega (arith, times_push v ys x)

pub times_pushed : (v n : ℕ) (xs : List ℕ) (x : ℕ) → (n ≡ 0 → times v (pushed n xs x) ≡ times v xs + one_if (x == v)) × (0 < n → times v (pushed n xs x) ≡ times v xs)
times_pushed v zero xs x = (λ e. times_push v xs x, λ h. absurd (omega arith))
times_pushed v (suc n) xs x = (λ e. absurd (omega arith), λ h. refl)

pub length_pushed : (n : ℕ) (xs : List ℕ) (x : ℕ) → length (pushed n xs x) ≤ length xs + 1
length_pushed zero xs x = let e = length-append xs (x ∷ []) in omega (arith, e)
length_pushed (suc n) xs x = omega arith

pub total_set : (xs : List ℕ) (i a : ℕ) → i < length xs → total (slice_set xs i a) + get_or xs i 0 ≡ total xs + a
total_set [] i a lt = absurd (omega arith)
total_set (x ∷ xs) zero a lt = omega arith
total_set (x ∷ xs) (suc i) a lt = omega (arith, total_set xs i a (omega arith))

-- a number after a write
pub set_at : (xs : List ℕ) (i a v : ℕ) → i < length xs → ((v ≡ i) × (slice_index (slice_set xs i a) v ≡ a)) ⊎ ((v ≡ i → ⊥) × (slice_index (slice_set xs i a) v ≡ slice_index xs v))
set_at xs i a v lt = ⊎_elim
    (λ e. inl (e, ap (λ u. get_or (set xs i a) u 0) e ∙ get_or-set_same xs i a 0 lt))
    (λ apart. inr (apart, get_or-set_other xs i v a 0 apart))
    (cases_eq v i)

pub freed_none : (b : ℕ) → freed 0 b ≡ 0
freed_none b = refl

pub freed_now : (a b : ℕ) → 0 < a → b ≡ 0 → freed a b ≡ 1
freed_now zero b h e = absurd (omega arith)
freed_now (suc a) zero h e = refl
freed_now (suc a) (suc b) h e = absurd (omega arith)

pub freed_later : (a b : ℕ) → 0 < b → freed a b ≡ 0
freed_later zero b h = refl
freed_later (suc a) zero h = absurd (omega arith)
freed_later (suc a) (suc b) h = refl

pub replicate_at : (n a v : ℕ) → v < n → slice_index (replicate n a) v ≡ a
replicate_at zero a v lt = absurd (omega arith)
replicate_at (suc n) a zero lt = refl
replicate_at (suc n) a (suc v) lt = replicate_at n a v (omega arith)

pub replicate_le : (n a v : ℕ) → slice_index (replicate n a) v ≤ a
replicate_le zero a v = omega arith
replicate_le (suc n) a zero = omega arith
replicate_le (suc n) a (suc v) = replicate_le n a v

pub told_sum : (a b : ℕ) → told (a + told b) ≡ told (a + b)
told_sum a b = omega arith
