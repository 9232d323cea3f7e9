-- A number in range wraps to itself, and copies of its word are copies of it.
use Rattle.std.proofs.Common.{◌≡◌, ◌<◌, ◌≤◌, ◌+◌, ◌-◌, ◌^◌, ℕ, ℤ, zero, suc, pos, negsuc, ◌∷◌, map, replicate, refl, ap, ◌∙◌, arith}
use Rattle.std.proofs.lemmas.Int.{ints}
use Rattle.g_types.specs.declared.rep.Rep.{Rep}
use Rattle.g_types.specs.declared.rep.Rep.TheVariants.{I8, I16, I32, I64, U8, U16, U32, U64}
use Rattle.g_types.specs.Rep.{wrap, size, half, InRange}
use Rattle.g_values.specs.declared.num.Num.{Num}
use Rattle.g_values.specs.Numbers.{number, word}
use Rattle.g_values.proofs.Words.{IsLifted, wrap_is, number-word}

pos_lifted : (a : ℕ) → IsLifted (pos a) 0 a
pos_lifted a = record { lift = omega (arith, ints) }

neg_lifted : (a : ℕ) → a + 1 ≤ 2 ^ 64 → IsLifted (negsuc a) 1 (2 ^ 64 - (a + 1))
neg_lifted a h = record { lift = omega (arith, ints) }

pos_kept : (r : Rep) (a : ℕ) → a + half r < size r → wrap r (pos a) ≡ pos a
pos_kept I8 a h = wrap_is I8 (pos a) 0 a (pos_lifted a) ∙ omega (arith, ints)
pos_kept I16 a h = wrap_is I16 (pos a) 0 a (pos_lifted a) ∙ omega (arith, ints)
pos_kept I32 a h = wrap_is I32 (pos a) 0 a (pos_lifted a) ∙ omega (arith, ints)
pos_kept I64 a h = wrap_is I64 (pos a) 0 a (pos_lifted a) ∙ omega (arith, ints)
pos_kept U8 a h = wrap_is U8 (pos a) 0 a (pos_lifted a) ∙ omega (arith, ints)
pos_kept U16 a h = wrap_is U16 (pos a) 0 a (pos_lifted a) ∙ omega (arith, ints)
pos_kept U32 a h = wrap_is U32 (pos a) 0 a (pos_lifted a) ∙ omega (arith, ints)
pos_kept U64 a h = wrap_is U64 (pos a) 0 a (pos_lifted a) ∙ omega (arith, ints)

neg_kept : (r : Rep) (a : ℕ) → a + 1 ≤ half r → wrap r (negsuc a) ≡ negsuc a
neg_kept I8 a h = wrap_is I8 (negsuc a) 1 (2 ^ 64 - (a + 1)) (neg_lifted a (omega arith)) ∙ omega (arith, ints)
neg_kept I16 a h = wrap_is I16 (negsuc a) 1 (2 ^ 64 - (a + 1)) (neg_lifted a (omega arith)) ∙ omega (arith, ints)
neg_kept I32 a h = wrap_is I32 (negsuc a) 1 (2 ^ 64 - (a + 1)) (neg_lifted a (omega arith)) ∙ omega (arith, ints)
neg_kept I64 a h = wrap_is I64 (negsuc a) 1 (2 ^ 64 - (a + 1)) (neg_lifted a (omega arith)) ∙ omega (arith, ints)
neg_kept U8 a h = absurd (omega arith)
neg_kept U16 a h = absurd (omega arith)
neg_kept U32 a h = absurd (omega arith)
neg_kept U64 a h = absurd (omega arith)

pub kept : (r : Rep) (n : ℤ) → InRange r n → wrap r n ≡ n
kept r (pos a) p = pos_kept r a (let h = p.high in omega (arith, ints))
kept r (negsuc a) p = neg_kept r a (let h = p.low in omega (arith, ints))

pub copies : (x : Num) (n : ℕ) → map (number x.rep) (replicate n (word x.n)) ≡ replicate n x.n
copies x zero = refl
copies x (suc n) = ap (λ z. z ∷ map (number x.rep) (replicate n (word x.n))) (number-word x.rep x.n ∙ kept x.rep x.n x.in_range) ∙ ap (λ l. x.n ∷ l) (copies x n)
