-- Numbers that are equal modulo a size.
use Rattle.std.proofs.Common.{◌≡◌, ◌<◌, ℕ, zero, suc, ◌+◌, ◌*◌, ◌/◌, ℤ, pos, negsuc, ◌+ℤ◌, ◌-ℤ◌, sym, subst, arith}
use Rattle.std.specs.Prelude.{◌*ℤ◌, neg_ℤ}
use Rattle.std.proofs.lemmas.Int.{ints}
use Rattle.std.specs.Int.{int_rem_euclid}
use Rattle.g_types.specs.declared.rep.Rep.{Rep}
use Rattle.g_types.specs.declared.rep.Rep.TheVariants.{I8, I16, I32, I64, U8, U16, U32, U64}
use Rattle.g_types.specs.Rep.{wrap, size, half, IsCongruent}

-- a remainder is the number and a multiple of the divisor
abbrev IsMultipleOff : ℕ → ℤ → ℤ → Type 0
IsMultipleOff s a b = (q : ℤ) × (a ≡ b +ℤ (q *ℤ pos s))

neg_product : (k s : ℕ) → neg_ℤ (pos k) *ℤ pos s ≡ neg_ℤ (pos (k * s))
neg_product zero s = omega (arith, ints)
neg_product (suc k) s = omega (arith, ints)

remainder : (z : ℤ) (s : ℕ) → 0 < s → IsMultipleOff s (int_rem_euclid z (pos s)) z
remainder (pos a) s some = (neg_ℤ (pos (a / s)), omega (arith, ints, neg_product (a / s) s))
remainder (negsuc a) s some = (pos (a / s + 1), omega (arith, ints))

shifted : (z h : ℤ) (s : ℕ) (r : ℤ) → IsMultipleOff s r (z +ℤ h) → IsMultipleOff s (r -ℤ h) z
shifted z h s r m = let q = m.0 *ℤ pos s in let e : r ≡ (z +ℤ h) +ℤ q = m.1 in (m.0, let f : r -ℤ h ≡ z +ℤ q = omega (arith, ints) in f)

wrap-congruent : (r : Rep) (n : ℤ) → IsCongruent r (wrap r n) n
wrap-congruent r n = shifted n (pos (half r)) (size r) (int_rem_euclid (n +ℤ pos (half r)) (pos (size r))) (remainder (n +ℤ pos (half r)) (size r) (some r))
  where
    some : (r : Rep) → 0 < size r
    some I8 = omega arith
    some I16 = omega arith
    some I32 = omega arith
    some I64 = omega arith
    some U8 = omega arith
    some U16 = omega arith
    some U32 = omega arith
    some U64 = omega arith

pub congruent_to : (r : Rep) (n w : ℤ) → w ≡ wrap r n → IsCongruent r w n
congruent_to r n w e = subst (λ x. IsCongruent r x n) (sym e) (wrap-congruent r n)
