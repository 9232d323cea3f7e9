-- Which inputs an operation takes, so that it may work in their buffers; the others are read.
use Rattle.std.specs.Prelude.{ℕ, zero, suc, Bool, true, false, not, ◌&&◌, List, [], ◌∷◌}
use Rattle.g_types.specs.declared.ty.Ty.{Ty}
use Rattle.g_values.specs.Spelled.{is_array}
use Rattle.g_values.specs.declared.primitive.Primitive.{Primitive}
use Rattle.g_operations.specs.declared.row.Taken.{Taken}
use Rattle.g_operations.specs.declared.row.Taken.TheVariants.{Nothing, First, Second, FirstTwo, FirstAndThird, SecondAndThird, FirstArray, All}
use Rattle.g_operations.specs.Rows.{primitive_row}

-- of the inputs from 0 on
abbrev pub first : ℕ → Bool
first zero = true
first (suc k) = false

abbrev pub second : ℕ → Bool
second zero = false
second (suc k) = first k

abbrev pub first_two : ℕ → Bool
first_two zero = true
first_two (suc k) = first k

abbrev pub first_and_third : ℕ → Bool
first_and_third zero = true
first_and_third (suc k) = second k

abbrev pub second_and_third : ℕ → Bool
second_and_third zero = false
second_and_third (suc k) = first_two k

-- the first array
abbrev pub first_array : List Ty → ℕ → Bool
first_array [] k = false
first_array (t ∷ ts) zero = is_array t
first_array (t ∷ ts) (suc k) = not (is_array t) && first_array ts k

-- whether the input at a place is taken, by the types of all
abbrev pub is_taken : Taken → List Ty → ℕ → Bool
is_taken Nothing ts k = false
is_taken First ts k = first k
is_taken Second ts k = second k
is_taken FirstTwo ts k = first_two k
is_taken FirstAndThird ts k = first_and_third k
is_taken SecondAndThird ts k = second_and_third k
is_taken FirstArray ts k = first_array ts k
is_taken All ts k = true

abbrev pub takes : Primitive → List Ty → ℕ → Bool
takes p = is_taken (primitive_row p).taken
