-- What a primitive gives holds only references that its inputs hold.
use Rattle.std.proofs.Common.{◌+◌, ℕ, ℤ, pos, zero, suc, Bool, true, false, cond, bit_and, bit_or, bit_xor, List, [], ◌∷◌, ◌++◌, length, map, take, drop, reverse, min, Option, None, Some, sym, subst}
use Rattle.std.specs.Prelude.{slice_get}
use Rattle.std.specs.List.{All, Contains, flat_map}
use Rattle.std.specs.Simd.Lanes.{zip2}
use Rattle.std.proofs.lemmas.List.Elements.{All-nil, All-cons, All-head, All-tail, All-append, All-map, All-replicate, All-set, All-take, All-drop, All-contains_itself}
use Rattle.std.proofs.lemmas.List.Sorted.{IsPermutation-reverse, All-permutation}
use Rattle.g_types.specs.declared.rep.Rep.{Rep}
use Rattle.g_types.specs.declared.rep.Rep.TheVariants.{I8, I16, I32, I64, U8, U16, U32, U64}
use Rattle.g_types.specs.declared.ty.Ty.{Ty}
use Rattle.g_values.specs.Coerce.{coerced}
use Rattle.g_values.specs.Default.{default}
use Rattle.g_values.specs.Number.{num_of}
use Rattle.g_values.specs.Numbers.{Numbers}
use Rattle.g_values.specs.Proper.{most}
use Rattle.g_values.specs.Value.{type_of}
use Rattle.g_values.specs.declared.primitive.Primitive.{Primitive}
use Rattle.g_values.specs.declared.primitive.Primitive.TheVariants as op
use Rattle.g_values.specs.declared.value.ArrOf.{ArrOf}
use Rattle.g_values.specs.declared.value.Value.{Value, out-Value}
use Rattle.g_values.specs.declared.value.Value.TheOpen.{Value-F}
use Rattle.g_values.specs.declared.value.Value.TheVariants as value
use Rattle.g_prims_definitions.specs.Arithmetic.{number, plus, minus, times, arithmetic_at, each_at, increased, decreased, negated, absolute, converted_at, quotient, remainder, greater, lesser, pair_at, folded_at}
use Rattle.g_prims_definitions.specs.Arrays.{count, index, element, element_at, replaced, replaced_at, subset, without, within, copies, insert, sorted, number_of, length_at, or_default, or_default_number, indexed_at, replace_at, build_at, concat_at, initialized_at, subset_at, deleted_at, reversed_at, sorted_at, searched_at}
use Rattle.g_prims_definitions.specs.Bits.{by_bits, both, either, differs, truth, items, bitwise_at, turned, inverted_at, shift_at}
use Rattle.g_prims_definitions.specs.Clusters.{parts_at, part_at, with_part}
use Rattle.g_prims_definitions.specs.Comparisons.{less, chosen_at, chosen, select, truth_number}
use Rattle.g_prims_definitions.specs.Strings.{text, integer, told}
use Rattle.g_prims_definitions.specs.Values.{outputs_of}
use Rattle.g_reference_laws.specs.Laws.{OutputsHoldTheInputs}
use Rattle.g_reference_laws.specs.References.{Reference, references_of, HoldsOnly}
use Rattle.g_reference_laws.proofs.Held.{references-Num, references-Bool, references-Str, references-Nums, HoldsAt, holds_none, holds_items, holds_cluster, each, level}
use Rattle.g_reference_laws.proofs.Plain.{coerced_holds_the_same, defaults_hold_none}

module _ (P : Reference → Type 0) where
  -- values without parts

  of_numbers : (xs : Numbers) → HoldsOnly P (value.Nums xs)
  of_numbers xs = holds_none P (value.Nums xs) (references-Nums xs)

  of_number : (r : Rep) (n : ℤ) → HoldsOnly P (number r n)
  of_number r n = holds_none P (number r n) (references-Num (num_of r n))

  of_truth : (b : Bool) → HoldsOnly P (value.Bool b)
  of_truth b = holds_none P (value.Bool b) (references-Bool b)

  of_text : (s : List ℕ) → HoldsOnly P (value.Str s)
  of_text s = holds_none P (value.Str s) (references-Str s)

  of_default : (t : Ty) → HoldsOnly P (default t)
  of_default t = holds_none P (default t) (defaults_hold_none t)

  of_coerced : (v : Value) (t : Ty) → HoldsOnly P v → HoldsOnly P (coerced v t)
  of_coerced v t h = subst (All P) (sym (coerced_holds_the_same v t)) h

  -- inputs and outputs

  first : (v : Value) (vs : List Value) → All (HoldsOnly P) (v ∷ vs) → HoldsOnly P v
  first v vs all = All-head (HoldsOnly P) v vs all

  second : (v w : Value) (vs : List Value) → All (HoldsOnly P) (v ∷ w ∷ vs) → HoldsOnly P w
  second v w vs all = first w vs (All-tail (HoldsOnly P) v (w ∷ vs) all)

  third : (v w u : Value) (vs : List Value) → All (HoldsOnly P) (v ∷ w ∷ u ∷ vs) → HoldsOnly P u
  third v w u vs all = second w u vs (All-tail (HoldsOnly P) v (w ∷ u ∷ vs) all)

  one : (v : Value) → HoldsOnly P v → All (HoldsOnly P) (v ∷ [])
  one v h = All-cons (HoldsOnly P) v [] h (All-nil (HoldsOnly P))

  two : (v w : Value) → HoldsOnly P v → HoldsOnly P w → All (HoldsOnly P) (v ∷ w ∷ [])
  two v w h k = All-cons (HoldsOnly P) v (w ∷ []) h (one w k)

  a_truth : (b : Bool) → All (HoldsOnly P) (value.Bool b ∷ [])
  a_truth b = one (value.Bool b) (of_truth b)

  a_number : (r : Rep) (n : ℤ) → All (HoldsOnly P) (number r n ∷ [])
  a_number r n = one (number r n) (of_number r n)

  a_text : (s : List ℕ) → All (HoldsOnly P) (value.Str s ∷ [])
  a_text s = one (value.Str s) (of_text s)

  -- numbers and Booleans

  of_arithmetic : (f : ℤ → ℤ → ℤ) (a b : Value-F Value) → HoldsOnly P (arithmetic_at f a b)
  of_arithmetic f (Value-F.Num x) (Value-F.Num y) = of_number _ _
  of_arithmetic f (Value-F.Num x) (Value-F.Nums ys) = of_numbers _
  of_arithmetic f (Value-F.Nums xs) (Value-F.Num y) = of_numbers _
  of_arithmetic f (Value-F.Nums xs) (Value-F.Nums ys) = of_numbers _
  of_arithmetic f _ _ = of_truth false

  of_each : (f : ℤ → ℤ) (a : Value-F Value) → HoldsOnly P (each_at f a)
  of_each f (Value-F.Num x) = of_number _ _
  of_each f (Value-F.Nums xs) = of_numbers _
  of_each f _ = of_truth false

  of_converted : (r : Rep) (a : Value-F Value) → HoldsOnly P (converted_at r a)
  of_converted r (Value-F.Num x) = of_number r x.n
  of_converted r (Value-F.Nums xs) = of_numbers _
  of_converted r _ = of_truth false

  of_pair : (f g : ℤ → ℤ → ℤ) (a b : Value-F Value) → All (HoldsOnly P) (pair_at f g a b)
  of_pair f g (Value-F.Num x) (Value-F.Num y) = two _ _ (of_number _ _) (of_number _ _)
  of_pair f g _ _ = All-nil (HoldsOnly P)

  of_folded : (f : ℤ → ℤ → ℤ) (n : ℤ) (a : Value-F Value) → HoldsOnly P (folded_at f n a)
  of_folded f n (Value-F.Nums xs) = of_number _ _
  of_folded f n _ = of_truth false

  of_shift : (a b : Value-F Value) → HoldsOnly P (shift_at a b)
  of_shift (Value-F.Num x) (Value-F.Num n) = of_number _ _
  of_shift _ _ = of_truth false

  of_truths : (f : Value → Bool) (xs : ArrOf Value) → HoldsOnly P (items xs (map (λ x. value.Bool (f x)) xs.items))
  of_truths f xs = holds_items P xs _ (All-map (HoldsOnly P) (λ x. value.Bool (f x)) xs.items (λ k d lt. of_truth _))

  zipped_truths : (f : Value → Value → Bool) (xs ys : List Value) → All (HoldsOnly P) (zip2 (λ x y. value.Bool (f x y)) xs ys)
  zipped_truths f [] ys = All-nil (HoldsOnly P)
  zipped_truths f (x ∷ xs) [] = All-nil (HoldsOnly P)
  zipped_truths f (x ∷ xs) (y ∷ ys) = All-cons (HoldsOnly P) (value.Bool (f x y)) _ (of_truth (f x y)) (zipped_truths f xs ys)

  of_bitwise : (f : ℤ → ℤ → ℤ) (g : Bool → Bool → Bool) (a b : Value-F Value) → HoldsOnly P (bitwise_at f g a b)
  of_bitwise f g (Value-F.Bool a) (Value-F.Bool b) = of_truth (g a b)
  of_bitwise f g (Value-F.Bool a) (Value-F.Arr ys) = of_truths (λ y. g a (truth y)) ys
  of_bitwise f g (Value-F.Arr xs) (Value-F.Bool b) = of_truths (λ x. g (truth x) b) xs
  of_bitwise f g (Value-F.Arr xs) (Value-F.Arr ys) = holds_items P xs _ (zipped_truths (λ x y. g (truth x) (truth y)) xs.items ys.items)
  of_bitwise f g a b = of_arithmetic f a b

  of_inverted : (a : Value-F Value) → HoldsOnly P (inverted_at a)
  of_inverted (Value-F.Bool b) = of_truth _
  of_inverted (Value-F.Arr xs) = of_truths _ xs
  of_inverted a = of_each turned a

  -- a choice

  of_chosen : (a b : Value-F Value) (v : Value) → HoldsOnly P v → HoldsOnly P (chosen_at a b v)
  of_chosen (Value-F.Num x) (Value-F.Num y) v h = of_number _ _
  of_chosen _ _ v h = h

  of_either : (c : Bool) (v w : Value) → HoldsOnly P v → HoldsOnly P w → HoldsOnly P (cond c v w)
  of_either true v w h k = h
  of_either false v w h k = k

  of_select : (s t f : Value) → HoldsOnly P t → HoldsOnly P f → HoldsOnly P (select s t f)
  of_select s t f h k = of_either (truth s) (chosen t f) (chosen f t) (of_chosen (out-Value t) (out-Value f) t h) (of_chosen (out-Value f) (out-Value t) f k)

  -- elements of an array

  got : (t : Ty) (xs : List Value) (n : ℕ) → All (HoldsOnly P) xs → HoldsOnly P (or_default t (slice_get xs n))
  got t [] n all = of_default t
  got t (x ∷ xs) zero all = first x xs all
  got t (x ∷ xs) (suc n) all = got t xs n (All-tail (HoldsOnly P) x xs all)

  got_at : (t : Ty) (xs : List Value) (at : Option ℕ) → All (HoldsOnly P) xs → HoldsOnly P (or_default t (element_at xs at))
  got_at t xs None all = of_default t
  got_at t xs (Some n) all = got t xs n all

  got_number : (r : Rep) (o : Option ℤ) → HoldsOnly P (or_default_number r o)
  got_number r None = of_number r (pos 0)
  got_number r (Some n) = of_number r n

  of_indexed : (a : Value-F Value) (i : ℤ) → HoldsAt P a → HoldsOnly P (indexed_at a i)
  of_indexed (Value-F.Nums xs) i h = got_number xs.rep (element xs.all i)
  of_indexed (Value-F.Arr xs) i h = got_at xs.elem xs.items (index i) h
  of_indexed _ i h = of_truth false

  -- arrays of an array's elements, and of others

  put_at : (at : Option ℕ) (xs : List Value) (e : Value) → HoldsOnly P e → All (HoldsOnly P) xs → All (HoldsOnly P) (replaced_at xs at e)
  put_at None xs e h all = all
  put_at (Some n) xs e h all = All-set (HoldsOnly P) xs n e h all

  of_replaced : (a : Value-F Value) (i : ℤ) (e : Value) → HoldsAt P a → HoldsOnly P e → HoldsOnly P (replace_at a i e)
  of_replaced (Value-F.Nums xs) i e h k = of_numbers _
  of_replaced (Value-F.Arr xs) i e h k = holds_items P xs (replaced xs.items i e) (put_at (index i) xs.items e k h)
  of_replaced _ i e h k = of_truth false

  joined : (xs ys : List Value) → All (HoldsOnly P) xs → All (HoldsOnly P) ys → All (HoldsOnly P) (within (xs ++ ys))
  joined xs ys h k = All-take (HoldsOnly P) most (xs ++ ys) (All-append (HoldsOnly P) xs ys h k)

  of_built : (a : Value-F Value) (e : Value) → HoldsAt P a → HoldsOnly P e → HoldsOnly P (build_at a e)
  of_built (Value-F.Nums xs) e h k = of_numbers _
  of_built (Value-F.Arr xs) e h k = holds_items P xs (within (xs.items ++ e ∷ [])) (joined xs.items (e ∷ []) h (one e k))
  of_built _ e h k = of_truth false

  of_concat : (a b : Value-F Value) → HoldsAt P a → HoldsAt P b → HoldsOnly P (concat_at a b)
  of_concat (Value-F.Nums xs) (Value-F.Nums ys) h k = of_numbers _
  of_concat (Value-F.Arr xs) (Value-F.Arr ys) h k = holds_items P xs (within (xs.items ++ ys.items)) (joined xs.items ys.items h k)
  of_concat _ _ h k = of_truth false

  of_copies : (e : Value) (n : ℤ) → HoldsOnly P e → HoldsOnly P (value.Arr (record { elem = type_of e; items = copies n e }))
  of_copies e n h = holds_items P (record { elem = type_of e; items = [] }) (copies n e) (All-replicate (HoldsOnly P) (min (count n) most) e h)

  of_initialized : (l : Value-F Value) (n : ℤ) (e : Value) → HoldsOnly P e → HoldsOnly P (initialized_at l n e)
  of_initialized (Value-F.Num x) n e h = of_numbers _
  of_initialized _ n e h = of_copies e n h

  of_subset : (a : Value-F Value) (i n : ℤ) → HoldsAt P a → HoldsOnly P (subset_at a i n)
  of_subset (Value-F.Nums xs) i n h = of_numbers _
  of_subset (Value-F.Arr xs) i n h = holds_items P xs (subset i n xs.items) (All-take (HoldsOnly P) (count n) (drop (count i) xs.items) (All-drop (HoldsOnly P) (count i) xs.items h))
  of_subset _ i n h = of_truth false

  of_deleted : (a : Value-F Value) (i n : ℤ) → HoldsAt P a → HoldsOnly P (deleted_at a i n)
  of_deleted (Value-F.Nums xs) i n h = of_numbers _
  of_deleted (Value-F.Arr xs) i n h =
      let front = take (count i) xs.items in
      let rest = drop (count i + count n) xs.items in
      holds_items P xs (without i n xs.items)
      (All-append (HoldsOnly P) front rest (All-take (HoldsOnly P) (count i) xs.items h) (All-drop (HoldsOnly P) (count i + count n) xs.items h))
  of_deleted _ i n h = of_truth false

  of_reversed : (a : Value-F Value) → HoldsAt P a → HoldsOnly P (reversed_at a)
  of_reversed (Value-F.Nums xs) h = of_numbers _
  of_reversed (Value-F.Arr xs) h = holds_items P xs (reverse xs.items) (All-permutation (HoldsOnly P) xs.items (reverse xs.items) (IsPermutation-reverse xs.items) h)
  of_reversed _ h = of_truth false

  inserted : (before : Value → Value → Bool) (x : Value) (ys : List Value) → HoldsOnly P x → All (HoldsOnly P) ys → All (HoldsOnly P) (insert before x ys)
  inserted before x [] h all = one x h
  inserted before x (y ∷ ys) h all =
      by (before y x) (All-cons (HoldsOnly P) y (insert before x ys) (first y ys all) (inserted before x ys h (All-tail (HoldsOnly P) y ys all)))
    where
      by : (c : Bool) → All (HoldsOnly P) (y ∷ insert before x ys) → All (HoldsOnly P) (cond c (y ∷ insert before x ys) (x ∷ y ∷ ys))
      by true k = k
      by false k = All-cons (HoldsOnly P) x (y ∷ ys) h all

  in_order : (before : Value → Value → Bool) (xs : List Value) → All (HoldsOnly P) xs → All (HoldsOnly P) (sorted before xs)
  in_order before [] all = all
  in_order before (x ∷ xs) all = inserted before x (sorted before xs) (first x xs all) (in_order before xs (All-tail (HoldsOnly P) x xs all))

  of_sorted : (a : Value-F Value) → HoldsAt P a → HoldsOnly P (sorted_at a)
  of_sorted (Value-F.Nums xs) h = of_numbers _
  of_sorted (Value-F.Arr xs) h = holds_items P xs (sorted less xs.items) (in_order less xs.items h)
  of_sorted _ h = of_truth false

  -- strings

  of_told : (o : Option ℤ) → All (HoldsOnly P) (told o)
  of_told None = two _ _ (of_number I64 (pos 0)) (of_truth false)
  of_told (Some n) = two _ _ (of_number I64 n) (of_truth true)

  -- clusters

  of_parts : (a : Value-F Value) → HoldsAt P a → All (HoldsOnly P) (parts_at a)
  of_parts (Value-F.Cluster vs) h = h
  of_parts _ h = All-nil (HoldsOnly P)

  of_part : (vs : List Value) (k : ℕ) → All (HoldsOnly P) vs → HoldsOnly P (part_at vs k)
  of_part [] k all = of_truth false
  of_part (v ∷ vs) zero all = first v vs all
  of_part (v ∷ vs) (suc k) all = of_part vs k (All-tail (HoldsOnly P) v vs all)

  of_put : (vs : List Value) (k : ℕ) (e : Value) → All (HoldsOnly P) vs → HoldsOnly P e → HoldsOnly P (value.Cluster (with_part vs k e))
  of_put vs k e all h =
      let t = type_of (part_at vs k) in
      holds_cluster P (with_part vs k e) (All-set (HoldsOnly P) vs k (coerced e t) (of_coerced e t h) all)

  -- what holds of each reference in the inputs holds of each in the outputs

  pub outputs_hold_only : (p : Primitive) (vs : List Value) → All (HoldsOnly P) vs → All (HoldsOnly P) (outputs_of p vs)
  outputs_hold_only op.Add (x ∷ y ∷ []) all = one _ (of_arithmetic plus (out-Value x) (out-Value y))
  outputs_hold_only op.Sub (x ∷ y ∷ []) all = one _ (of_arithmetic minus (out-Value x) (out-Value y))
  outputs_hold_only op.Mul (x ∷ y ∷ []) all = one _ (of_arithmetic times (out-Value x) (out-Value y))
  outputs_hold_only op.Inc (x ∷ []) all = one _ (of_each increased (out-Value x))
  outputs_hold_only op.Dec (x ∷ []) all = one _ (of_each decreased (out-Value x))
  outputs_hold_only op.Neg (x ∷ []) all = one _ (of_each negated (out-Value x))
  outputs_hold_only op.Abs (x ∷ []) all = one _ (of_each absolute (out-Value x))
  outputs_hold_only op.QuotRem (x ∷ y ∷ []) all = of_pair quotient remainder (out-Value x) (out-Value y)
  outputs_hold_only op.MaxMin (x ∷ y ∷ []) all = of_pair greater lesser (out-Value x) (out-Value y)
  outputs_hold_only op.And (x ∷ y ∷ []) all = one _ (of_bitwise (by_bits bit_and) both (out-Value x) (out-Value y))
  outputs_hold_only op.Or (x ∷ y ∷ []) all = one _ (of_bitwise (by_bits bit_or) either (out-Value x) (out-Value y))
  outputs_hold_only op.Xor (x ∷ y ∷ []) all = one _ (of_bitwise (by_bits bit_xor) differs (out-Value x) (out-Value y))
  outputs_hold_only op.Not (x ∷ []) all = one _ (of_inverted (out-Value x))
  outputs_hold_only op.Shift (x ∷ n ∷ []) all = one _ (of_shift (out-Value x) (out-Value n))
  outputs_hold_only op.ToI8 (x ∷ []) all = one _ (of_converted I8 (out-Value x))
  outputs_hold_only op.ToI16 (x ∷ []) all = one _ (of_converted I16 (out-Value x))
  outputs_hold_only op.ToI32 (x ∷ []) all = one _ (of_converted I32 (out-Value x))
  outputs_hold_only op.ToI64 (x ∷ []) all = one _ (of_converted I64 (out-Value x))
  outputs_hold_only op.ToU8 (x ∷ []) all = one _ (of_converted U8 (out-Value x))
  outputs_hold_only op.ToU16 (x ∷ []) all = one _ (of_converted U16 (out-Value x))
  outputs_hold_only op.ToU32 (x ∷ []) all = one _ (of_converted U32 (out-Value x))
  outputs_hold_only op.ToU64 (x ∷ []) all = one _ (of_converted U64 (out-Value x))
  outputs_hold_only op.BoolInt (b ∷ []) all = a_number I16 (truth_number (truth b))
  outputs_hold_only op.Eq (x ∷ y ∷ []) all = a_truth _
  outputs_hold_only op.Ne (x ∷ y ∷ []) all = a_truth _
  outputs_hold_only op.Lt (x ∷ y ∷ []) all = a_truth _
  outputs_hold_only op.Le (x ∷ y ∷ []) all = a_truth _
  outputs_hold_only op.Gt (x ∷ y ∷ []) all = a_truth _
  outputs_hold_only op.Ge (x ∷ y ∷ []) all = a_truth _
  outputs_hold_only op.Select (c ∷ t ∷ f ∷ []) all = one _ (of_select c t f (second c t (f ∷ []) all) (third c t f [] all))
  outputs_hold_only op.All (a ∷ []) all = a_truth _
  outputs_hold_only op.Any (a ∷ []) all = a_truth _
  outputs_hold_only op.ArraySize (a ∷ []) all = a_number I32 (pos (length_at (out-Value a)))
  outputs_hold_only op.IndexArray (a ∷ i ∷ []) all = one _ (of_indexed (out-Value a) (number_of i) (level P a (first a (i ∷ []) all)))
  outputs_hold_only op.Replace (a ∷ i ∷ e ∷ []) all = one _ (of_replaced (out-Value a) (number_of i) e (level P a (first a (i ∷ e ∷ []) all)) (third a i e [] all))
  outputs_hold_only op.Build (a ∷ e ∷ []) all = one _ (of_built (out-Value a) e (level P a (first a (e ∷ []) all)) (second a e [] all))
  outputs_hold_only op.Concat (a ∷ b ∷ []) all = one _ (of_concat (out-Value a) (out-Value b) (level P a (first a (b ∷ []) all)) (level P b (second a b [] all)))
  outputs_hold_only op.Initialize (e ∷ n ∷ []) all = one _ (of_initialized (out-Value e) (number_of n) e (first e (n ∷ []) all))
  outputs_hold_only op.Subset (a ∷ i ∷ n ∷ []) all = one _ (of_subset (out-Value a) (number_of i) (number_of n) (level P a (first a (i ∷ n ∷ []) all)))
  outputs_hold_only op.Delete (a ∷ i ∷ n ∷ []) all =
      let held = level P a (first a (i ∷ n ∷ []) all) in
      two _ _ (of_deleted (out-Value a) (number_of i) (number_of n) held) (of_subset (out-Value a) (number_of i) (number_of n) held)
  outputs_hold_only op.Reverse (a ∷ []) all = one _ (of_reversed (out-Value a) (level P a (first a [] all)))
  outputs_hold_only op.Sort (a ∷ []) all = one _ (of_sorted (out-Value a) (level P a (first a [] all)))
  outputs_hold_only op.Sum (a ∷ []) all = one _ (of_folded plus (pos 0) (out-Value a))
  outputs_hold_only op.Product (a ∷ []) all = one _ (of_folded times (pos 1) (out-Value a))
  outputs_hold_only op.Search (a ∷ e ∷ []) all = a_number I32 (searched_at (out-Value a) e)
  outputs_hold_only op.StrLen (s ∷ []) all = a_number I32 (pos (length (text s)))
  outputs_hold_only op.StrConcat (s ∷ t ∷ []) all = a_text _
  outputs_hold_only op.StrSubset (s ∷ i ∷ n ∷ []) all = a_text _
  outputs_hold_only op.StrBytes (s ∷ []) all = one _ (of_numbers _)
  outputs_hold_only op.BytesStr (a ∷ []) all = a_text _
  outputs_hold_only op.NumStr (x ∷ []) all = a_text _
  outputs_hold_only op.StrNum (s ∷ []) all = of_told (integer (text s))
  outputs_hold_only op.Bundle vs all = one (value.Cluster vs) (holds_cluster P vs all)
  outputs_hold_only op.Unbundle (c ∷ []) all = of_parts (out-Value c) (level P c (first c [] all))
  outputs_hold_only (op.Get k) (c ∷ []) all = one _ (of_part (parts_at (out-Value c)) k (of_parts (out-Value c) (level P c (first c [] all))))
  outputs_hold_only (op.Set k) (c ∷ e ∷ []) all = one _ (of_put (parts_at (out-Value c)) k e (of_parts (out-Value c) (level P c (first c (e ∷ []) all))) (second c e [] all))
  outputs_hold_only _ _ all = All-nil (HoldsOnly P)

pub outputs_hold_the_inputs : OutputsHoldTheInputs
outputs_hold_the_inputs p vs =
    let held = flat_map references_of vs in
    outputs_hold_only (Contains held) p vs (each (Contains held) vs (All-contains_itself held))
