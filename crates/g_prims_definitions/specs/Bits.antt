-- Operations bit by bit, on numbers and on Booleans.
use Rattle.std.specs.Prelude.{ℕ, ℤ, zero, suc, pos, negsuc, ◌-ℤ◌, ◌*◌, ◌/◌, ◌^◌, Bool, false, not, ◌&&◌, ◌||◌, List, map, cond, nat_lt, unsigned_abs}
use Rattle.std.specs.Int.{int_rem_euclid}
use Rattle.std.specs.Simd.Lanes.{zip2}
use Rattle.g_types.specs.declared.rep.Rep.{Rep}
use Rattle.g_types.specs.Rep.{size, width}
use Rattle.g_values.specs.Numbers.{word}
use Rattle.g_values.specs.declared.value.Value.{Value, out-Value}
use Rattle.g_values.specs.declared.value.Value.TheVariants as value
use Rattle.g_values.specs.declared.value.Value.TheOpen.{Value-F}
use Rattle.g_values.specs.declared.value.ArrOf.{ArrOf}
use Rattle.g_prims_definitions.specs.Arithmetic.{nothing, number, arithmetic_at, each_at}

-- The bits of a number are those of its residue modulo 2 ^ 64. The wider representation keeps the
-- lower ones.
abbrev pub by_bits : (ℕ → ℕ → ℕ) → ℤ → ℤ → ℤ
by_bits f x y = pos (f (word x) (word y))

abbrev pub both : Bool → Bool → Bool
both a b = a && b

abbrev pub either : Bool → Bool → Bool
either a b = a || b

abbrev pub differs : Bool → Bool → Bool
differs a b = cond a (not b) b

abbrev pub truth_at : Value-F Value → Bool
truth_at (Value-F.Bool b) = b
truth_at _ = false

abbrev pub truth : Value → Bool
truth v = truth_at (out-Value v)

abbrev pub items_of : ArrOf Value → List Value → ArrOf Value
items_of xs all = record { elem = xs.elem; items = all }

abbrev pub items : ArrOf Value → List Value → Value
items xs all = value.Arr (items_of xs all)

-- two operands, as with arithmetic
abbrev pub bitwise_at : (ℤ → ℤ → ℤ) → (Bool → Bool → Bool) → Value-F Value → Value-F Value → Value
bitwise_at f g (Value-F.Bool a) (Value-F.Bool b) = value.Bool (g a b)
bitwise_at f g (Value-F.Bool a) (Value-F.Arr ys) = items ys (map (λ y. value.Bool (g a (truth y))) ys.items)
bitwise_at f g (Value-F.Arr xs) (Value-F.Bool b) = items xs (map (λ x. value.Bool (g (truth x) b)) xs.items)
bitwise_at f g (Value-F.Arr xs) (Value-F.Arr ys) = items xs (zip2 (λ x y. value.Bool (g (truth x) (truth y))) xs.items ys.items)
bitwise_at f g x y = arithmetic_at f x y

abbrev pub bitwise : (ℤ → ℤ → ℤ) → (Bool → Bool → Bool) → Value → Value → Value
bitwise f g x y = bitwise_at f g (out-Value x) (out-Value y)

-- all bits of a number are turned
abbrev pub turned : ℤ → ℤ
turned x = negsuc zero -ℤ x

abbrev pub inverted_at : Value-F Value → Value
inverted_at (Value-F.Bool b) = value.Bool (not b)
inverted_at (Value-F.Arr xs) = items xs (map (λ x. value.Bool (not (truth x))) xs.items)
inverted_at x = each_at turned x

abbrev pub inverted : Value → Value
inverted x = inverted_at (out-Value x)

-- the bits of a number of a representation, as a number that isn't negative
abbrev pub bits : Rep → ℤ → ℕ
bits r x = unsigned_abs (int_rem_euclid x (pos (size r)))

-- to the left for a number above 0, to the right below, and 0 by the width or more
abbrev pub shifted : Rep → ℤ → ℤ → ℤ
shifted r x (pos k) = cond (nat_lt k (width r)) (pos (bits r x * 2 ^ k)) (pos 0)
shifted r x (negsuc k) = cond (nat_lt (suc k) (width r)) (pos (bits r x / 2 ^ suc k)) (pos 0)

abbrev pub shift_at : Value-F Value → Value-F Value → Value
shift_at (Value-F.Num x) (Value-F.Num n) = number x.rep (shifted x.rep x.n n.n)
shift_at _ _ = nothing

abbrev pub shift : Value → Value → Value
shift x n = shift_at (out-Value x) (out-Value n)
