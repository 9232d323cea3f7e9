-- Arithmetic of numbers and of arrays of numbers. What has no row gives FALSE, here and below.
use Rattle.std.specs.Prelude.{ℤ, zero, suc, pos, negsuc, ◌+ℤ◌, ◌-ℤ◌, ◌*ℤ◌, neg_ℤ, false, List, [], ◌∷◌, map, Option, Some, None, cond, int_lt}
use Rattle.std.specs.Int.{int_div_euclid}
use Rattle.std.specs.Simd.Lanes.{zip2}
use Rattle.g_types.specs.declared.rep.Rep.{Rep}
use Rattle.g_types.specs.Rep.{wrap, wider}
use Rattle.g_values.specs.Number.{num_of}
use Rattle.g_values.specs.Numbers.{Numbers}
use Rattle.g_values.specs.Coerce.{coerced_numbers}
use Rattle.g_values.specs.declared.value.Value.{Value, out-Value}
use Rattle.g_values.specs.declared.value.Value.TheVariants as value
use Rattle.g_values.specs.declared.value.Value.TheOpen.{Value-F}

abbrev pub nothing : Value
nothing = value.Bool false

abbrev pub numbers_of : Rep → List ℤ → Numbers
numbers_of r all = record { rep = r; all = all }

abbrev pub numbers : Rep → List ℤ → Value
numbers r all = value.Nums (numbers_of r all)

abbrev pub number : Rep → ℤ → Value
number r n = value.Num (num_of r n)

-- Two operands are coerced to the wider representation of both first, and what they give is wrapped: arrays element by element to the
-- smaller size, a number with each element of an array. Sums, differences and products are the same modulo 2 ^ width for operands that
-- are coerced or not, so that only what they give is wrapped below; a law of `g_prims_laws` says that both may be coerced before.

abbrev pub combined : (ℤ → ℤ → ℤ) → Rep → ℤ → ℤ → ℤ
combined f r x y = wrap r (f x y)

abbrev pub zipped : (ℤ → ℤ → ℤ) → Numbers → Numbers → Numbers
zipped f xs ys = let r = wider xs.rep ys.rep in numbers_of r (zip2 (combined f r) xs.all ys.all)

abbrev pub left : (ℤ → ℤ → ℤ) → Rep → Numbers → ℤ → Numbers
left f r xs y = numbers_of r (map (λ x. combined f r x y) xs.all)

abbrev pub right : (ℤ → ℤ → ℤ) → Rep → ℤ → Numbers → Numbers
right f r x ys = numbers_of r (map (combined f r x) ys.all)

abbrev pub arithmetic_at : (ℤ → ℤ → ℤ) → Value-F Value → Value-F Value → Value
arithmetic_at f (Value-F.Num x) (Value-F.Num y) = number (wider x.rep y.rep) (f x.n y.n)
arithmetic_at f (Value-F.Num x) (Value-F.Nums ys) = value.Nums (right f (wider x.rep ys.rep) x.n ys)
arithmetic_at f (Value-F.Nums xs) (Value-F.Num y) = value.Nums (left f (wider xs.rep y.rep) xs y.n)
arithmetic_at f (Value-F.Nums xs) (Value-F.Nums ys) = value.Nums (zipped f xs ys)
arithmetic_at f _ _ = nothing

abbrev pub arithmetic : (ℤ → ℤ → ℤ) → Value → Value → Value
arithmetic f x y = arithmetic_at f (out-Value x) (out-Value y)

abbrev pub plus : ℤ → ℤ → ℤ
plus x y = x +ℤ y

abbrev pub minus : ℤ → ℤ → ℤ
minus x y = x -ℤ y

abbrev pub times : ℤ → ℤ → ℤ
times x y = x *ℤ y

-- the representation of a number, or of an array's numbers
abbrev pub rep_at : Value-F Value → Option Rep
rep_at (Value-F.Num x) = Some x.rep
rep_at (Value-F.Nums xs) = Some xs.rep
rep_at _ = None

abbrev pub rep_of : Value → Option Rep
rep_of v = rep_at (out-Value v)

-- one operand, wrapped

abbrev pub mapped : (ℤ → ℤ) → Numbers → Numbers
mapped f xs = numbers_of xs.rep (map (λ x. wrap xs.rep (f x)) xs.all)

abbrev pub each_at : (ℤ → ℤ) → Value-F Value → Value
each_at f (Value-F.Num x) = number x.rep (f x.n)
each_at f (Value-F.Nums xs) = value.Nums (mapped f xs)
each_at f _ = nothing

abbrev pub each : (ℤ → ℤ) → Value → Value
each f x = each_at f (out-Value x)

abbrev pub negated : ℤ → ℤ
negated x = pos 0 -ℤ x

abbrev pub increased : ℤ → ℤ
increased x = x +ℤ pos 1

abbrev pub decreased : ℤ → ℤ
decreased x = x -ℤ pos 1

abbrev pub absolute : ℤ → ℤ
absolute x = cond (int_lt x (pos 0)) (neg_ℤ x) x

-- numbers wrapped into another representation

abbrev pub converted_at : Rep → Value-F Value → Value
converted_at r (Value-F.Num x) = number r x.n
converted_at r (Value-F.Nums xs) = value.Nums (coerced_numbers r xs)
converted_at r _ = nothing

abbrev pub converted : Rep → Value → Value
converted r x = converted_at r (out-Value x)

-- the floor of x / y, and 0 where y is 0
abbrev pub quotient : ℤ → ℤ → ℤ
quotient x (pos zero) = pos 0
quotient x (pos (suc y)) = int_div_euclid x (pos (suc y))
quotient x (negsuc y) = int_div_euclid (neg_ℤ x) (pos (suc y))

abbrev pub remainder : ℤ → ℤ → ℤ
remainder x y = x -ℤ (y *ℤ quotient x y)

abbrev pub greater : ℤ → ℤ → ℤ
greater x y = cond (int_lt x y) y x

abbrev pub lesser : ℤ → ℤ → ℤ
lesser x y = cond (int_lt x y) x y

-- two results for two numbers, which are coerced to the wider representation first

abbrev pub pair_at : (ℤ → ℤ → ℤ) → (ℤ → ℤ → ℤ) → Value-F Value → Value-F Value → List Value
pair_at f g (Value-F.Num x) (Value-F.Num y) = let r = wider x.rep y.rep in number r (f (wrap r x.n) (wrap r y.n)) ∷ number r (g (wrap r x.n) (wrap r y.n)) ∷ []
pair_at f g _ _ = []

abbrev pub pair : (ℤ → ℤ → ℤ) → (ℤ → ℤ → ℤ) → Value → Value → List Value
pair f g x y = pair_at f g (out-Value x) (out-Value y)

-- the sum and the product of an array's numbers, wrapped

abbrev pub accumulated : (ℤ → ℤ → ℤ) → ℤ → List ℤ → ℤ
accumulated f n [] = n
accumulated f n (x ∷ xs) = f x (accumulated f n xs)

abbrev pub folded_at : (ℤ → ℤ → ℤ) → ℤ → Value-F Value → Value
folded_at f n (Value-F.Nums xs) = number xs.rep (accumulated f n xs.all)
folded_at f n _ = nothing

-- from the number of the empty array
abbrev pub folded : (ℤ → ℤ → ℤ) → ℤ → Value → Value
folded f n a = folded_at f n (out-Value a)
