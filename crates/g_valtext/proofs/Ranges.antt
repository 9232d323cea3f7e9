-- Numbers within the range of their representation.
use Rattle.std.proofs.Common.{◌≡◌, ◌≤◌, ◌<◌, ℕ, ◌+◌, ◌-◌, ◌%◌, ℤ, pos, negsuc, neg_ℤ, ◌+ℤ◌, ◌-ℤ◌, ◌≤ℤ◌, Bool, true, false, ◌&&◌, refl, ap, ◌∙◌, arith}
use Rattle.std.proofs.lemmas.Int.{ints, int_rem_euclid_is}
use Rattle.std.proofs.lemmas.Float.{T_from_true}
use Rattle.std.specs.Int.Signed.{le_z, le_z_yes}
use Rattle.std.specs.Int.{int_rem_euclid}
use Rattle.g_types.specs.declared.rep.Rep.{Rep}
use Rattle.g_types.specs.declared.rep.Rep.TheVariants.{I8, I16, I32, I64, U8, U16, U32, U64}
use Rattle.g_types.specs.Rep.{wrap, size, half}
use Rattle.g_values.specs.Number.{num_of}
use Rattle.g_valtext.specs.Spellings.{is_within}

both : (a b : Bool) → (a && b) ≡ true → (a ≡ true) × (b ≡ true)
both true true e = (refl, refl)
both true false e = absurd cc
both false b e = absurd cc

-- a number from -h on and below s - h is what it is modulo s
in_place : (n : ℤ) (s h : ℕ) → ((m : ℕ) → m < s → m % s ≡ m) → h < s → neg_ℤ (pos h) ≤ℤ n → n ≤ℤ pos (s - h - 1) → int_rem_euclid (n +ℤ pos h) (pos s) -ℤ pos h ≡ n
in_place (pos a) s h small lt low high =
    let below : a + h < s = omega (arith, ints) in
    let e = int_rem_euclid_is (pos a +ℤ pos h) (pos s) s 0 (a + h) (omega arith) refl (omega (arith, ints)) in
    ap (λ x. x -ℤ pos h) (e ∙ ap pos (small (a + h) below)) ∙ omega (arith, ints)
in_place (negsuc a) s h small lt low high =
    let above : a + 1 ≤ h = omega (arith, ints) in
    let e = int_rem_euclid_is (negsuc a +ℤ pos h) (pos s) s 0 (h - (a + 1)) (omega arith) refl (omega (arith, ints)) in
    ap (λ x. x -ℤ pos h) (e ∙ ap pos (small (h - (a + 1)) (omega arith))) ∙ omega (arith, ints)

pub half_below : (r : Rep) → half r < size r
half_below I8 = omega arith
half_below I16 = omega arith
half_below I32 = omega arith
half_below I64 = omega arith
half_below U8 = omega arith
half_below U16 = omega arith
half_below U32 = omega arith
half_below U64 = omega arith

remainder : (r : Rep) (m : ℕ) → m < size r → m % size r ≡ m
remainder I8 m lt = omega arith
remainder I16 m lt = omega arith
remainder I32 m lt = omega arith
remainder I64 m lt = omega arith
remainder U8 m lt = omega arith
remainder U16 m lt = omega arith
remainder U32 m lt = omega arith
remainder U64 m lt = omega arith

pub kept : (r : Rep) (n : ℤ) → is_within r n ≡ true → wrap r n ≡ n
kept r n e =
    let b = both (le_z (neg_ℤ (pos (half r))) n) (le_z n (pos (size r - half r - 1))) e in
    in_place n (size r) (half r) (remainder r) (half_below r) (le_z_yes (T_from_true _ b.0)) (le_z_yes (T_from_true _ b.1))

pub kept_n : (r : Rep) (n : ℤ) → is_within r n ≡ true → (num_of r n).n ≡ n
kept_n = kept
