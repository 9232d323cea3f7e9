-- Operations on arrays. Indices and counts are taken by their value; an array that would pass the
-- limit of size keeps the first elements.
use Rattle.std.specs.Prelude.{ℕ, ℤ, zero, pos, negsuc, ◌+◌, Bool, List, [], ◌∷◌, ◌++◌, take, drop, set, reverse, replicate, length, min, cond, Option, Some, None, slice_get, int_lt}
use Rattle.std.specs.Ordering.{int_eq}
use Rattle.g_types.specs.declared.rep.Rep.{Rep}
use Rattle.g_types.specs.declared.rep.Rep.TheVariants.{I32}
use Rattle.g_types.specs.Rep.{wrap}
use Rattle.g_types.specs.declared.ty.Ty.{Ty}
use Rattle.g_values.specs.Default.{default}
use Rattle.g_values.specs.Proper.{most}
use Rattle.g_values.specs.Value.{type_of}
use Rattle.g_values.specs.declared.value.Value.{Value, out-Value}
use Rattle.g_values.specs.declared.value.Value.TheVariants as value
use Rattle.g_values.specs.declared.value.Value.TheOpen.{Value-F}
use Rattle.g_values.specs.declared.value.ArrOf.{ArrOf}
use Rattle.g_prims_definitions.specs.Arithmetic.{nothing, number, numbers}
use Rattle.g_prims_definitions.specs.Bits.{items}
use Rattle.g_prims_definitions.specs.Comparisons.{same, less}

-- lists

-- a count, where one below 0 counts as 0
abbrev pub count : ℤ → ℕ
count (pos n) = n
count (negsuc n) = 0

-- an index, if it isn't below 0
abbrev pub index : ℤ → Option ℕ
index (pos n) = Some n
index (negsuc n) = None

abbrev pub element_at : {A : Type 0} → List A → Option ℕ → Option A
element_at xs None = None
element_at xs (Some n) = slice_get xs n

abbrev pub element : {A : Type 0} → List A → ℤ → Option A
element xs i = element_at xs (index i)

-- another element at a place; out of range nothing changes
abbrev pub replaced_at : {A : Type 0} → List A → Option ℕ → A → List A
replaced_at xs None x = xs
replaced_at xs (Some n) x = set xs n x

abbrev pub replaced : {A : Type 0} → List A → ℤ → A → List A
replaced xs i x = replaced_at xs (index i) x

-- n elements from place i, cut at the end
abbrev pub subset : {A : Type 0} → ℤ → ℤ → List A → List A
subset i n xs = take (count n) (drop (count i) xs)

-- what remains without them
abbrev pub without : {A : Type 0} → ℤ → ℤ → List A → List A
without i n xs = take (count i) xs ++ drop (count i + count n) xs

abbrev pub within : {A : Type 0} → List A → List A
within xs = take most xs

abbrev pub insert : {A : Type 0} → (A → A → Bool) → A → List A → List A
insert before x [] = x ∷ []
insert before x (y ∷ ys) = cond (before y x) (y ∷ insert before x ys) (x ∷ y ∷ ys)

abbrev pub sorted : {A : Type 0} → (A → A → Bool) → List A → List A
sorted before [] = []
sorted before (x ∷ xs) = insert before x (sorted before xs)

-- the first place, from k on, of an element that passes, or -1
abbrev pub first_place : {A : Type 0} → (A → Bool) → ℕ → List A → ℤ
first_place test k [] = negsuc zero
first_place test k (x ∷ xs) = cond (test x) (pos k) (first_place test (k + 1) xs)

-- values

abbrev pub number_at : Value-F Value → ℤ
number_at (Value-F.Num x) = x.n
number_at _ = pos 0

-- an index or a count
abbrev pub number_of : Value → ℤ
number_of v = number_at (out-Value v)

abbrev pub length_at : Value-F Value → ℕ
length_at (Value-F.Nums xs) = length xs.all
length_at (Value-F.Arr xs) = length xs.items
length_at _ = 0

abbrev pub array_size : Value → Value
array_size a = number I32 (pos (length_at (out-Value a)))

abbrev pub or_default_number : Rep → Option ℤ → Value
or_default_number r None = number r (pos 0)
or_default_number r (Some n) = number r n

abbrev pub or_default : Ty → Option Value → Value
or_default t None = default t
or_default t (Some v) = v

abbrev pub indexed_at : Value-F Value → ℤ → Value
indexed_at (Value-F.Nums xs) i = or_default_number xs.rep (element xs.all i)
indexed_at (Value-F.Arr xs) i = or_default xs.elem (element xs.items i)
indexed_at _ i = nothing

abbrev pub index_array : Value → Value → Value
index_array a i = indexed_at (out-Value a) (number_of i)

-- an element that is put in is coerced; only a number is changed by that
abbrev pub replace_at : Value-F Value → ℤ → Value → Value
replace_at (Value-F.Nums xs) i e = numbers xs.rep (replaced xs.all i (wrap xs.rep (number_of e)))
replace_at (Value-F.Arr xs) i e = items xs (replaced xs.items i e)
replace_at _ i e = nothing

abbrev pub replace : Value → Value → Value → Value
replace a i e = replace_at (out-Value a) (number_of i) e

abbrev pub build_at : Value-F Value → Value → Value
build_at (Value-F.Nums xs) e = numbers xs.rep (within (xs.all ++ wrap xs.rep (number_of e) ∷ []))
build_at (Value-F.Arr xs) e = items xs (within (xs.items ++ e ∷ []))
build_at _ e = nothing

abbrev pub build : Value → Value → Value
build a e = build_at (out-Value a) e

abbrev pub concat_at : Value-F Value → Value-F Value → Value
concat_at (Value-F.Nums xs) (Value-F.Nums ys) = numbers xs.rep (within (xs.all ++ ys.all))
concat_at (Value-F.Arr xs) (Value-F.Arr ys) = items xs (within (xs.items ++ ys.items))
concat_at _ _ = nothing

abbrev pub concat : Value → Value → Value
concat a b = concat_at (out-Value a) (out-Value b)

abbrev pub copies : {A : Type 0} → ℤ → A → List A
copies n x = replicate (min (count n) most) x

abbrev pub initialized_at : Value-F Value → ℤ → Value → Value
initialized_at (Value-F.Num x) n e = numbers x.rep (copies n x.n)
initialized_at _ n e = let xs : ArrOf Value = record { elem = type_of e; items = copies n e } in value.Arr xs

abbrev pub initialize : Value → Value → Value
initialize e n = initialized_at (out-Value e) (number_of n) e

abbrev pub subset_at : Value-F Value → ℤ → ℤ → Value
subset_at (Value-F.Nums xs) i n = numbers xs.rep (subset i n xs.all)
subset_at (Value-F.Arr xs) i n = items xs (subset i n xs.items)
subset_at _ i n = nothing

abbrev pub array_subset : Value → Value → Value → Value
array_subset a i n = subset_at (out-Value a) (number_of i) (number_of n)

abbrev pub deleted_at : Value-F Value → ℤ → ℤ → Value
deleted_at (Value-F.Nums xs) i n = numbers xs.rep (without i n xs.all)
deleted_at (Value-F.Arr xs) i n = items xs (without i n xs.items)
deleted_at _ i n = nothing

-- what remains, and what is cut
abbrev pub delete : Value → Value → Value → List Value
delete a i n = deleted_at (out-Value a) (number_of i) (number_of n) ∷ array_subset a i n ∷ []

abbrev pub reversed_at : Value-F Value → Value
reversed_at (Value-F.Nums xs) = numbers xs.rep (reverse xs.all)
reversed_at (Value-F.Arr xs) = items xs (reverse xs.items)
reversed_at _ = nothing

abbrev pub reversed : Value → Value
reversed a = reversed_at (out-Value a)

abbrev pub sorted_at : Value-F Value → Value
sorted_at (Value-F.Nums xs) = numbers xs.rep (sorted int_lt xs.all)
sorted_at (Value-F.Arr xs) = items xs (sorted less xs.items)
sorted_at _ = nothing

-- ascending
abbrev pub sort : Value → Value
sort a = sorted_at (out-Value a)

abbrev pub searched_at : Value-F Value → Value → ℤ
searched_at (Value-F.Nums xs) e = first_place (int_eq (wrap xs.rep (number_of e))) 0 xs.all
searched_at (Value-F.Arr xs) e = first_place (same e) 0 xs.items
searched_at _ e = negsuc zero

abbrev pub search : Value → Value → Value
search a e = number I32 (searched_at (out-Value a) e)
