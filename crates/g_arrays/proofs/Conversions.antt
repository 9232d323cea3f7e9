-- 0 added to each number wraps it.
use Rattle.std.proofs.Common.{◌≡◌, ℤ, pos, ◌+ℤ◌, List, [], ◌∷◌, map, refl, ap, ◌∙◌, arith}
use Rattle.std.proofs.lemmas.Int.{ints}
use Rattle.g_types.specs.declared.rep.Rep.{Rep}
use Rattle.g_types.specs.Rep.{wrap}
use Rattle.g_values.specs.Numbers.{Numbers}
use Rattle.g_values.specs.Coerce.{coerced_numbers}
use Rattle.g_prims_definitions.specs.Arithmetic.{combined, left, numbers_of, plus}

nothing_added : (x : ℤ) → x +ℤ pos 0 ≡ x
nothing_added x = omega (arith, ints)

each_wrapped : (r : Rep) (xs : List ℤ) → map (λ x. combined plus r x (pos 0)) xs ≡ map (wrap r) xs
each_wrapped r [] = refl
each_wrapped r (x ∷ xs) = ap (λ n. wrap r n ∷ map (λ x. combined plus r x (pos 0)) xs) (nothing_added x) ∙ ap (λ l. wrap r x ∷ l) (each_wrapped r xs)

pub left-is_coerced : (r : Rep) (xs : Numbers) → left plus r xs (pos 0) ≡ coerced_numbers r xs
left-is_coerced r xs = ap (numbers_of r) (each_wrapped r xs.all)
