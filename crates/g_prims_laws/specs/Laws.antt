-- What holds of every primitive beside its row and its values.
use Rattle.std.specs.Prelude.{◌≡◌, ◌↔◌, ℕ, ℤ, Bool, true, false, List, length, map, Option, Some, None, int_lt}
use Rattle.std.specs.List.{All}
use Rattle.std.specs.List.Sorted.{IsPermutation, IsSortedBy}
use Rattle.g_types.specs.declared.rep.Rep.{Rep}
use Rattle.g_types.specs.declared.ty.Ty.{Ty}
use Rattle.g_types.specs.Rep.{wider}
use Rattle.g_values.specs.Numbers.{Numbers}
use Rattle.g_values.specs.Proper.{IsProper}
use Rattle.g_values.specs.Value.{type_of}
use Rattle.g_values.specs.declared.value.ArrOf.{ArrOf}
use Rattle.g_values.specs.declared.value.Value.{Value}
use Rattle.g_values.specs.declared.value.Value.TheVariants as value
use Rattle.g_values.specs.declared.primitive.Primitive.{Primitive}
use Rattle.g_operations.specs.Rows.{fits, primitive_row}
use Rattle.g_prims_definitions.specs.Arithmetic.{arithmetic, converted, numbers, rep_of}
use Rattle.g_prims_definitions.specs.Arrays.{sort}
use Rattle.g_prims_definitions.specs.Begins.{BreaksOff}
use Rattle.g_prims_definitions.specs.Bits.{items}
use Rattle.g_prims_definitions.specs.Comparisons.{equal, less}
use Rattle.g_prims_definitions.specs.Kinds.{has_reference}
use Rattle.g_prims_definitions.specs.Rows.{row_of, first_refused}
use Rattle.g_prims_definitions.specs.Values.{outputs_of}

-- values are proper, and of these types in order
pub record AreOfTypes (ts : List Ty) (vs : List Value) : Type 0 where
  pub proper : All IsProper vs
  pub of_types : map type_of vs ≡ ts

-- for proper inputs whose types have a row, the outputs are proper values of the row's types
abbrev pub GivesItsRow : Type 0
GivesItsRow = (p : Primitive) (vs : List Value) (ts : List Ty) → All IsProper vs → row_of p (map type_of vs) ≡ Some ts → AreOfTypes ts (outputs_of p vs)

-- types that have a row are as many as the operation has inputs, and their outputs as many as it has outputs
abbrev pub FitsItsRow : Type 0
FitsItsRow = (p : Primitive) (ts outs : List Ty) → row_of p ts ≡ Some outs → fits (primitive_row p) (length ts) (length outs) ≡ true

-- types that have no row break off at the place that their reading tells, and nowhere else
abbrev pub BreaksOffThere : Type 0
BreaksOffThere = (p : Primitive) (ts : List Ty) (k : ℕ) → ((row_of p ts ≡ None) × (first_refused p ts ≡ k)) ↔ BreaksOff p ts k

-- the elements of the first list, each no less than the one before it
pub record IsAscending {A : Type 0} (lt : A → A → Bool) (xs ys : List A) : Type 0 where
  pub permutation : IsPermutation xs ys
  pub in_order : IsSortedBy lt ys

-- `sort` gives the numbers, or the strings, of an array in ascending order
abbrev pub SortsNumbers : Type 0
SortsNumbers = (xs : Numbers) → (ys : List ℤ) × (sort (value.Nums xs) ≡ numbers xs.rep ys) × IsAscending int_lt xs.all ys

abbrev pub SortsTexts : Type 0
SortsTexts = (xs : ArrOf Value) → (ys : List Value) × (sort (value.Arr xs) ≡ items xs ys) × IsAscending less xs.items ys

-- both operands may be coerced to the wider representation first, as the language says
abbrev pub CoercesFirst : (ℤ → ℤ → ℤ) → Type 0
CoercesFirst f = (x y : Value) (r s : Rep) → rep_of x ≡ Some r → rep_of y ≡ Some s → arithmetic f x y ≡ arithmetic f (converted (wider r s) x) (converted (wider r s) y)

-- two proper values of one type without references are equal by the operation `eq` exactly where they are the same
abbrev pub EqualIsSame : Type 0
EqualIsSame = (v w : Value) → IsProper v → IsProper w → type_of v ≡ type_of w → has_reference (type_of v) ≡ false → (equal v w ≡ true) ↔ (v ≡ w)
