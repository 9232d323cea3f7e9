-- Numbers that are wrapped are told by what they wrap to.
use Rattle.std.proofs.Common.{◌≡◌, ℤ, pos, ap, subst}
use Rattle.std.proofs.Math.Dec.{T_prop}
use Rattle.g_types.specs.declared.rep.Rep.{Rep}
use Rattle.g_types.specs.Rep.{wrap, InRange}
use Rattle.g_values.specs.declared.num.Num.{Num}
use Rattle.g_values.specs.Number.{num_of, wrap-in_range}
use Rattle.g_values.specs.Numbers.{word}
use Rattle.g_values.proofs.Words.{wrap-word}
use Rattle.g_prims_edits.specs.declared.words.Operator.{Operator}
use Rattle.g_prims_edits.specs.Words.{on_numbers, result_word}
use Rattle.g_prims_edits.proofs.WordLemmas.{number-result}

InRange-prop : (r : Rep) (n : ℤ) → IsProp (InRange r n)
InRange-prop r n = hlevel T_prop

abbrev pub num_with : (r : Rep) (n : ℤ) → InRange r n → Num
num_with r n p = record { rep = r; n = n; in_range = p }

pub same_with : (r : Rep) (n m : ℤ) (e : n ≡ m) (p : InRange r n) (q : InRange r m) → num_with r n p ≡ num_with r m q
same_with r n m e p q = subst (λ k. (h : InRange r k) → num_with r n p ≡ num_with r k h) e (λ h. ap (num_with r n) (InRange-prop r n p h)) q

pub same_wrapped : (r : Rep) (a b : ℤ) → wrap r a ≡ wrap r b → num_of r a ≡ num_of r b
same_wrapped r a b e = same_with r (wrap r a) (wrap r b) e (wrap-in_range r a) (wrap-in_range r b)

pub same_words : (r : Rep) (a b : ℤ) → word a ≡ word b → num_of r a ≡ num_of r b
same_words r a b e = same_wrapped r a b (wrap-word r a b e)

-- `number r w` is `wrap r (pos w)`
pub num_of_result : (o : Operator) (r : Rep) (x y : ℤ) → num_of r (pos (result_word o r (word x) (word y))) ≡ num_of r (on_numbers o x y)
num_of_result o r x y = same_wrapped r (pos (result_word o r (word x) (word y))) (on_numbers o x y) (number-result o r x y)
