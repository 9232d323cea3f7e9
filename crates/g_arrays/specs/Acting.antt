-- Operations in the buffer of an input that they take.
use Rattle.std.specs.Prelude.{ℕ, Bool, true, false, not, ◌&&◌, ◌||◌, ◌==◌, List, [], ◌∷◌, ◌++◌, ◌≡◌, ◌<◌, ◌+◌, Some, cond, nat_lt, slice_get, take, drop}
use Rattle.g_types.specs.declared.ty.Ty.{Ty}
use Rattle.g_values.specs.declared.value.Value.{Value}
use Rattle.g_values.specs.declared.primitive.Primitive.{Primitive}
use Rattle.g_operations.specs.declared.row.Count.{Count}
use Rattle.g_operations.specs.declared.row.Count.TheVariants.{Exactly, Between, Any}
use Rattle.g_operations.specs.declared.row.Taken.{Taken}
use Rattle.g_operations.specs.declared.row.Taken.TheVariants.{Nothing, First, Second, FirstTwo, FirstAndThird, SecondAndThird, FirstArray, All}
use Rattle.g_operations.specs.Rows.{OperationRow, primitive_row}
use Rattle.g_prims_definitions.specs.Rows.{row_of}
use Rattle.g_prims_definitions.specs.Takes.{takes}

-- all inputs, where the kept one stands at a place among the others
abbrev pub placed : ℕ → Value → List Value → List Value
placed at kept others = take at others ++ kept ∷ drop at others

-- The types of the inputs have a row with one output, and the input at a place, from 0, is the first
-- that the operation takes.
pub record Acts (p : Primitive) (at : ℕ) (ts : List Ty) : Type 0 where
  pub output : Ty
  pub row : row_of p ts ≡ Some (output ∷ [])
  pub taken : takes p ts at ≡ true
  pub first : (k : ℕ) → k < at → takes p ts k ≡ false

-- the place among all inputs of one of the others
abbrev pub input : ℕ → ℕ → ℕ
input at k = cond (nat_lt k at) k (k + 1)

-- each of the other inputs that the operation only reads is what it was
abbrev pub ReadsStay : Primitive → ℕ → List Ty → List Value → List Value → Type 0
ReadsStay p at ts old new = (k : ℕ) → takes p ts (input at k) ≡ false → slice_get new k ≡ slice_get old k

-- Inner: which of the working functions an operation belongs to, by its row.

abbrev pub is_first : Taken → Bool
is_first Nothing = false
is_first First = true
is_first Second = false
is_first FirstTwo = false
is_first FirstAndThird = false
is_first SecondAndThird = false
is_first FirstArray = false
is_first All = false

abbrev pub is_first_array : Taken → Bool
is_first_array Nothing = false
is_first_array First = false
is_first_array Second = false
is_first_array FirstTwo = false
is_first_array FirstAndThird = false
is_first_array SecondAndThird = false
is_first_array FirstArray = true
is_first_array All = false

abbrev pub is_first_two : Taken → Bool
is_first_two Nothing = false
is_first_two First = false
is_first_two Second = false
is_first_two FirstTwo = true
is_first_two FirstAndThird = false
is_first_two SecondAndThird = false
is_first_two FirstArray = false
is_first_two All = false

-- at most one input is taken
abbrev pub is_single : Taken → Bool
is_single Nothing = true
is_single First = true
is_single Second = true
is_single FirstTwo = false
is_single FirstAndThird = false
is_single SecondAndThird = false
is_single FirstArray = true
is_single All = false

abbrev pub is_exactly : ℕ → Count → Bool
is_exactly n (Exactly k) = n == k
is_exactly n (Between least most) = false
is_exactly n Any = false

abbrev pub is_any : Count → Bool
is_any (Exactly k) = false
is_any (Between least most) = false
is_any Any = true

-- the first of n inputs is taken, and one value is given
abbrev pub takes_first_of : ℕ → OperationRow → Bool
takes_first_of n r = is_first r.taken && (is_exactly n r.inputs && is_exactly 1 r.outputs)

abbrev pub takes_only : Primitive → Bool
takes_only p = takes_first_of 1 (primitive_row p)

abbrev pub takes_first_of_three : Primitive → Bool
takes_first_of_three p = takes_first_of 3 (primitive_row p)

-- the second of two inputs may be taken, where the first is no array
abbrev pub takes_second : Primitive → Bool
takes_second p = is_first_array (primitive_row p).taken

abbrev pub takes_first : Primitive → Bool
takes_first p = takes_first_of 2 (primitive_row p) || takes_second p

abbrev pub takes_both : Primitive → Bool
takes_both p = is_first_two (primitive_row p).taken

-- no other input is taken, and what is given isn't a list
abbrev pub reads_others : Primitive → Bool
reads_others p = is_single (primitive_row p).taken && not (is_any (primitive_row p).outputs)
