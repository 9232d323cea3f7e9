-- Quotients by numbers below 0, and numbers made of words.
use Rattle.std.proofs.Common.{◌≡◌, ◌+◌, ℤ, suc, pos, negsuc, ◌-ℤ◌, ap, ◌∙◌, arith}
use Rattle.std.specs.Prelude.{neg_ℤ, ◌<ℤ◌}
use Rattle.std.specs.Int.{int_div_euclid}
use Rattle.std.proofs.lemmas.Int.{ints}
use Rattle.g_types.specs.declared.rep.Rep.{Rep}
use Rattle.g_values.specs.Number.{num_of}
use Rattle.g_values.specs.Numbers.{word}
use Rattle.g_values.proofs.Words.{word-pos, word-below}
use Rattle.g_prims_definitions.specs.Arithmetic.{quotient}
use Rattle.g_prims_edits.proofs.NumLemmas.{same_words}

minus : (x : ℤ) → neg_ℤ x ≡ pos 0 -ℤ x
minus x = omega (arith, ints)

pub quotient-below : (x y : ℤ) → y <ℤ pos 0 → quotient x y ≡ int_div_euclid (pos 0 -ℤ x) (pos 0 -ℤ y)
quotient-below x (pos y) h = absurd (omega (arith, ints))
quotient-below x (negsuc y) h =
    let e : suc y ≡ 0 + suc y = omega arith in
    ap (λ z. int_div_euclid z (pos (suc y))) (minus x) ∙ ap (λ m. int_div_euclid (pos 0 -ℤ x) (pos m)) e

pub num_of-word : (r : Rep) (z : ℤ) → num_of r (pos (word z)) ≡ num_of r z
num_of-word r z = same_words r (pos (word z)) z (word-pos (word z) (word-below z))
