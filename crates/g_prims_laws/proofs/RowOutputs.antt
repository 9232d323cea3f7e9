-- What a primitive gives for proper inputs whose types have a row is of the row's types.
use Rattle.std.proofs.Common.{◌≡◌, ℕ, ℤ, pos, Bool, true, false, cond, ◌&&◌, bit_and, bit_or, bit_xor, List, [], ◌∷◌, map, length, Option, None, Some, refl, ap, sym, ◌∙◌}
use Rattle.std.specs.Prelude.{is_some}
use Rattle.std.specs.List.{All}
use Rattle.std.proofs.lemmas.List.Elements.{All-head, All-tail}
use Rattle.g_types.specs.declared.rep.Rep.{Rep}
use Rattle.g_types.specs.declared.rep.Rep.TheVariants.{I8, I16, I32, I64, U8, U16, U32, U64}
use Rattle.g_types.specs.declared.ty.Ty.{Ty, out-Ty}
use Rattle.g_types.specs.declared.ty.Ty.TheVariants as ty
use Rattle.g_types.specs.Same.{same_type}
use Rattle.g_types.specs.Ty.{is_num, is_num_at, is_nums, is_nums_at}
use Rattle.g_types.proofs.SameLemmas.{same_type-true}
use Rattle.g_values.specs.Number.{num_of}
use Rattle.g_values.specs.Proper.{IsProper}
use Rattle.g_values.specs.Spelled.{is_array, is_array_at}
use Rattle.g_values.specs.Value.{type_of}
use Rattle.g_values.specs.declared.primitive.Primitive.{Primitive}
use Rattle.g_values.specs.declared.primitive.Primitive.TheVariants as op
use Rattle.g_values.specs.declared.value.Value.{Value, out-Value}
use Rattle.g_values.specs.declared.value.Value.TheVariants as value
use Rattle.g_values.proofs.TypesOf.{type-Num, type-Bool, type-Str, type-Nums, type-Cluster}
use Rattle.g_prims_definitions.specs.Arithmetic.{number, plus, minus, times, arithmetic, each, increased, decreased, negated, absolute, converted, quotient, remainder, greater, lesser, pair, folded}
use Rattle.g_prims_definitions.specs.Arrays.{number_of, subset_at, length_at, searched_at}
use Rattle.g_prims_definitions.specs.Bits.{bitwise, by_bits, both, either, differs, truth}
use Rattle.g_prims_definitions.specs.Comparisons.{chosen, select, truth_number}
use Rattle.g_prims_definitions.specs.Kinds.{has_bits, is_bool, is_numeric, elementwise, wide, wide_at, item, item_at, part, part_of, parts_at, is_assignable_to}
use Rattle.g_prims_definitions.specs.Row.{repeated}
use Rattle.g_prims_definitions.specs.Rows.{single, twice, when, row_of, selected, converted as converts, is_sortable, is_known, is_shallow}
use Rattle.g_prims_definitions.specs.Strings.{integer, text, told}
use Rattle.g_prims_definitions.specs.Values.{outputs_of}
use Rattle.g_prims_evaluation.proofs.ProperNumbers.{layer}
use Rattle.g_prims_evaluation.proofs.ProperOutputs.{proper-outputs}
use Rattle.g_prims_laws.specs.Laws.{AreOfTypes}
use Rattle.g_prims_laws.proofs.Levels.{type_at, level_at, level_is, type_is, at_level, known}
use Rattle.g_prims_laws.proofs.Shapes.{one_input, two_inputs, three_inputs, when_is, single_is, cond_is}
use Rattle.g_prims_laws.proofs.NumberRows.{numeric_at, bits_at, elementwise_is, typed-arithmetic, typed-each, typed-converted, typed-pair, typed-shift, typed-bitwise, typed-inverted, chosen_numbers, other_numbers, chosen_same, typed-folded}
use Rattle.g_prims_laws.proofs.ArrayRows.{typed-subset, typed-deleted, typed-reversed, typed-sorted, typed-replaced, typed-built, typed-concat, typed-indexed, typed-initialized, sortable}
use Rattle.g_prims_laws.proofs.ClusterRows.{typed-parts, typed-part, typed-put}

-- what is to be shown of each operation
abbrev Typed : Primitive → List Ty → List Value → Type 0
Typed p os vs = All IsProper vs → map type_of (outputs_of p vs) ≡ os

first : (v : Value) (vs : List Value) → All IsProper (v ∷ vs) → IsProper v
first v vs all = All-head IsProper v vs all

second : (v w : Value) (vs : List Value) → All IsProper (v ∷ w ∷ vs) → IsProper w
second v w vs all = All-head IsProper w vs (All-tail IsProper v (w ∷ vs) all)

third : (v w u : Value) (vs : List Value) → All IsProper (v ∷ w ∷ u ∷ vs) → IsProper u
third v w u vs all = second w u vs (All-tail IsProper v (w ∷ u ∷ vs) all)

-- one value of a type
alone : (v : Value) (t : Ty) (os : List Ty) → type_of v ≡ t → t ∷ [] ≡ os → map type_of (v ∷ []) ≡ os
alone v t os is e = ap (λ u. u ∷ []) is ∙ e

-- one value of an input's type
like : (v x : Value) (os : List Ty) → type_of v ≡ type_at (out-Value x) → type_of x ∷ [] ≡ os → map type_of (v ∷ []) ≡ os
like v x os is e = alone v (type_of x) os (is ∙ sym (type_is x)) e

a_truth : (b c : Bool) (os : List Ty) → when c (ty.Bool ∷ []) ≡ Some os → map type_of (value.Bool b ∷ []) ≡ os
a_truth b c os h = alone (value.Bool b) ty.Bool os (type-Bool b) (when_is c (ty.Bool ∷ []) os h).1

a_number : (r : Rep) (n : ℤ) (c : Bool) (os : List Ty) → when c (ty.Num r ∷ []) ≡ Some os → map type_of (number r n ∷ []) ≡ os
a_number r n c os h = alone (number r n) (ty.Num r) os (type-Num (num_of r n)) (when_is c (ty.Num r ∷ []) os h).1

a_text : (s : List ℕ) (c : Bool) (os : List Ty) → when c (ty.Str ∷ []) ≡ Some os → map type_of (value.Str s ∷ []) ≡ os
a_text s c os h = alone (value.Str s) ty.Str os (type-Str s) (when_is c (ty.Str ∷ []) os h).1

-- operations element by element

numbers_two : (f : ℤ → ℤ → ℤ) (os : List Ty) (x y : Value) → is_numeric (type_of x) ≡ true → single (elementwise (type_of x) (type_of y)) ≡ Some os
    → All IsProper (x ∷ y ∷ []) → map type_of (arithmetic f x y ∷ []) ≡ os
numbers_two f os x y n h all =
    let s = single_is (elementwise (type_of x) (type_of y)) os h in
    alone (arithmetic f x y) s.0 os
    (typed-arithmetic f (out-Value x) (out-Value y) s.0 (layer x (first x (y ∷ []) all)) (layer y (second x y [] all)) (at_level (λ k. numeric_at k ≡ true) x n) (sym (elementwise_is x y) ∙ s.1)) s.2

bits_two : (f : ℤ → ℤ → ℤ) (g : Bool → Bool → Bool) (os : List Ty) (x y : Value) → single (elementwise (type_of x) (type_of y)) ≡ Some os
    → All IsProper (x ∷ y ∷ []) → map type_of (bitwise f g x y ∷ []) ≡ os
bits_two f g os x y h all =
    let s = single_is (elementwise (type_of x) (type_of y)) os h in
    alone (bitwise f g x y) s.0 os
    (typed-bitwise f g (out-Value x) (out-Value y) s.0 (layer x (first x (y ∷ []) all)) (layer y (second x y [] all)) (sym (elementwise_is x y) ∙ s.1)) s.2

each_one : (f : ℤ → ℤ) (os : List Ty) (x : Value) → when (is_numeric (type_of x)) (type_of x ∷ []) ≡ Some os → All IsProper (x ∷ []) → map type_of (each f x ∷ []) ≡ os
each_one f os x h all =
    let w = when_is (is_numeric (type_of x)) (type_of x ∷ []) os h in
    like (each f x) x os (typed-each f (out-Value x) (layer x (first x [] all)) (at_level (λ k. numeric_at k ≡ true) x w.0)) w.1

converted_one : (r : Rep) (os : List Ty) (x : Value) → converts r (type_of x) ≡ Some os → All IsProper (x ∷ []) → map type_of (converted r x ∷ []) ≡ os
converted_one r os x h all =
    typed-converted r (out-Value x) os (layer x (first x [] all))
    (at_level (λ k. cond (is_num_at k) (Some (ty.Num r ∷ [])) (when (is_nums_at k) (ty.Arr (ty.Num r) ∷ [])) ≡ Some os) x h)

wide_is : (x y : Value) → wide (type_of x) (type_of y) ≡ wide_at (level_at (out-Value x)) (level_at (out-Value y))
wide_is x y = ap (λ k. wide_at k (out-Ty (type_of y))) (level_is x) ∙ ap (wide_at (level_at (out-Value x))) (level_is y)

pair_two : (f g : ℤ → ℤ → ℤ) (os : List Ty) (x y : Value) → is_num (type_of x) ≡ true → twice (wide (type_of x) (type_of y)) ≡ Some os → map type_of (pair f g x y) ≡ os
pair_two f g os x y n h = typed-pair f g (out-Value x) (out-Value y) os (at_level (λ k. is_num_at k ≡ true) x n) (sym (ap twice (wide_is x y)) ∙ h)

-- a choice

chosen_two : (s t f : Value) (os : List Ty) → selected (type_of t) (type_of f) ≡ Some os → map type_of (select s t f ∷ []) ≡ os
chosen_two s t f os h = by (is_num (type_of t) && is_num (type_of f)) refl h
  where
    both_is : (is_num (type_of t) && is_num (type_of f)) ≡ (is_num_at (level_at (out-Value t)) && is_num_at (level_at (out-Value f)))
    both_is = ap (λ k. is_num_at k && is_num (type_of f)) (level_is t) ∙ ap (λ k. is_num_at (level_at (out-Value t)) && is_num_at k) (level_is f)

    back_is : (is_num_at (level_at (out-Value t)) && is_num_at (level_at (out-Value f))) ≡ false → (is_num_at (level_at (out-Value f)) && is_num_at (level_at (out-Value t))) ≡ false
    back_is e = turn (is_num_at (level_at (out-Value t))) (is_num_at (level_at (out-Value f))) e
      where
        turn : (a b : Bool) → (a && b) ≡ false → (b && a) ≡ false
        turn true true e = e
        turn true false e = refl
        turn false true e = refl
        turn false false e = refl

    one_of : (c : Bool) (u : Ty) → type_of (chosen t f) ≡ u → type_of (chosen f t) ≡ u → type_of (cond c (chosen t f) (chosen f t)) ≡ u
    one_of true u a b = a
    one_of false u a b = b

    by : (b : Bool) → (is_num (type_of t) && is_num (type_of f)) ≡ b → cond b (single (wide (type_of t) (type_of f))) (when (same_type (type_of t) (type_of f)) (type_of t ∷ [])) ≡ Some os
        → map type_of (select s t f ∷ []) ≡ os
    by true n e =
        let w = single_is (wide (type_of t) (type_of f)) os e in
        let m = sym both_is ∙ n in
        let k = sym (wide_is t f) ∙ w.1 in
        alone (select s t f) w.0 os (one_of (truth s) w.0 (chosen_numbers (out-Value t) (out-Value f) t w.0 m k) (other_numbers (out-Value t) (out-Value f) f w.0 m k)) w.2
    by false n e =
        let w = when_is (same_type (type_of t) (type_of f)) (type_of t ∷ []) os e in
        let m = sym both_is ∙ n in
        alone (select s t f) (type_of t) os
        (one_of (truth s) (type_of t) (ap type_of (chosen_same (out-Value t) (out-Value f) t m))
        (ap type_of (chosen_same (out-Value f) (out-Value t) f (back_is m)) ∙ sym (same_type-true (type_of t) (type_of f) w.0)))
        w.1

-- arrays

is_array_level : (a : Value) → is_array (type_of a) ≡ true → is_array_at (level_at (out-Value a)) ≡ true
is_array_level a h = at_level (λ k. is_array_at k ≡ true) a h

sum_one : (f : ℤ → ℤ → ℤ) (n : ℤ) (os : List Ty) (a : Value) → cond (is_nums (type_of a)) (single (item (type_of a))) None ≡ Some os → All IsProper (a ∷ []) → map type_of (folded f n a ∷ []) ≡ os
sum_one f n os a h all =
    let c = cond_is (is_nums (type_of a)) (single (item (type_of a))) os h in
    let s = single_is (item (type_of a)) os c.1 in
    alone (folded f n a) s.0 os
    (typed-folded f n (out-Value a) s.0 (layer a (first a [] all)) (at_level (λ k. is_nums_at k ≡ true) a c.0) (at_level (λ k. item_at k ≡ Some s.0) a s.1)) s.2

told_types : (o : Option ℤ) → map type_of (told o) ≡ ty.Num I64 ∷ ty.Bool ∷ []
told_types None = ap (λ t. t ∷ type_of (value.Bool false) ∷ []) (type-Num (num_of I64 (pos 0))) ∙ ap (λ t. ty.Num I64 ∷ t ∷ []) (type-Bool false)
told_types (Some n) = ap (λ t. t ∷ type_of (value.Bool true) ∷ []) (type-Num (num_of I64 n)) ∙ ap (λ t. ty.Num I64 ∷ t ∷ []) (type-Bool true)

bundled : (vs : List Value) (os : List Ty) → repeated 64 is_shallow (λ ts. ty.Cluster ts ∷ []) (map type_of vs) ≡ Some os → map type_of (value.Cluster vs ∷ []) ≡ os
bundled [] os h = absurd cc
bundled (v ∷ vs) os h = alone (value.Cluster (v ∷ vs)) (ty.Cluster (map type_of (v ∷ vs))) os (type-Cluster (v ∷ vs)) (known _ os (cond_is _ (Some (ty.Cluster (map type_of (v ∷ vs)) ∷ [])) os h).1)

-- the law

pub typed-outputs : (p : Primitive) (vs : List Value) (os : List Ty) → All IsProper vs → row_of p (map type_of vs) ≡ Some os → map type_of (outputs_of p vs) ≡ os
typed-outputs op.Add vs os all h = two_inputs (Typed op.Add os) is_numeric (λ x y. single (elementwise x y)) os (λ x y n e. numbers_two plus os x y n e) vs h all
typed-outputs op.Sub vs os all h = two_inputs (Typed op.Sub os) is_numeric (λ x y. single (elementwise x y)) os (λ x y n e. numbers_two minus os x y n e) vs h all
typed-outputs op.Mul vs os all h = two_inputs (Typed op.Mul os) is_numeric (λ x y. single (elementwise x y)) os (λ x y n e. numbers_two times os x y n e) vs h all
typed-outputs op.Inc vs os all h = one_input (Typed op.Inc os) (λ x. when (is_numeric x) (x ∷ [])) os (λ x e. each_one increased os x e) vs h all
typed-outputs op.Dec vs os all h = one_input (Typed op.Dec os) (λ x. when (is_numeric x) (x ∷ [])) os (λ x e. each_one decreased os x e) vs h all
typed-outputs op.Neg vs os all h = one_input (Typed op.Neg os) (λ x. when (is_numeric x) (x ∷ [])) os (λ x e. each_one negated os x e) vs h all
typed-outputs op.Abs vs os all h = one_input (Typed op.Abs os) (λ x. when (is_numeric x) (x ∷ [])) os (λ x e. each_one absolute os x e) vs h all
typed-outputs op.QuotRem vs os all h = two_inputs (Typed op.QuotRem os) is_num (λ x y. twice (wide x y)) os (λ x y n e a. pair_two quotient remainder os x y n e) vs h all
typed-outputs op.MaxMin vs os all h = two_inputs (Typed op.MaxMin os) is_num (λ x y. twice (wide x y)) os (λ x y n e a. pair_two greater lesser os x y n e) vs h all
typed-outputs op.And vs os all h = two_inputs (Typed op.And os) has_bits (λ x y. single (elementwise x y)) os (λ x y n e. bits_two (by_bits bit_and) both os x y e) vs h all
typed-outputs op.Or vs os all h = two_inputs (Typed op.Or os) has_bits (λ x y. single (elementwise x y)) os (λ x y n e. bits_two (by_bits bit_or) either os x y e) vs h all
typed-outputs op.Xor vs os all h = two_inputs (Typed op.Xor os) has_bits (λ x y. single (elementwise x y)) os (λ x y n e. bits_two (by_bits bit_xor) differs os x y e) vs h all
typed-outputs op.Not vs os all h =
    one_input (Typed op.Not os) (λ x. when (has_bits x) (x ∷ [])) os
    (λ x e a. let w = when_is (has_bits (type_of x)) (type_of x ∷ []) os e in like _ x os (typed-inverted (out-Value x) (layer x (first x [] a)) (at_level (λ k. bits_at k ≡ true) x w.0)) w.1) vs h all
typed-outputs op.Shift vs os all h =
    two_inputs (Typed op.Shift os) is_num (λ x n. when (is_num n) (x ∷ [])) os
    (λ x n i e a. let w = when_is (is_num (type_of n)) (type_of x ∷ []) os e in
    like _ x os (typed-shift (out-Value x) (out-Value n) (at_level (λ k. is_num_at k ≡ true) x i) (at_level (λ k. is_num_at k ≡ true) n w.0)) w.1) vs h all
typed-outputs op.ToI8 vs os all h = one_input (Typed op.ToI8 os) (converts I8) os (λ x e. converted_one I8 os x e) vs h all
typed-outputs op.ToI16 vs os all h = one_input (Typed op.ToI16 os) (converts I16) os (λ x e. converted_one I16 os x e) vs h all
typed-outputs op.ToI32 vs os all h = one_input (Typed op.ToI32 os) (converts I32) os (λ x e. converted_one I32 os x e) vs h all
typed-outputs op.ToI64 vs os all h = one_input (Typed op.ToI64 os) (converts I64) os (λ x e. converted_one I64 os x e) vs h all
typed-outputs op.ToU8 vs os all h = one_input (Typed op.ToU8 os) (converts U8) os (λ x e. converted_one U8 os x e) vs h all
typed-outputs op.ToU16 vs os all h = one_input (Typed op.ToU16 os) (converts U16) os (λ x e. converted_one U16 os x e) vs h all
typed-outputs op.ToU32 vs os all h = one_input (Typed op.ToU32 os) (converts U32) os (λ x e. converted_one U32 os x e) vs h all
typed-outputs op.ToU64 vs os all h = one_input (Typed op.ToU64 os) (converts U64) os (λ x e. converted_one U64 os x e) vs h all
typed-outputs op.BoolInt vs os all h = one_input (Typed op.BoolInt os) _ os (λ b e a. a_number I16 (truth_number (truth b)) (is_bool (type_of b)) os e) vs h all
typed-outputs op.Eq vs os all h = two_inputs (Typed op.Eq os) _ _ os (λ x y n e a. a_truth _ _ os e) vs h all
typed-outputs op.Ne vs os all h = two_inputs (Typed op.Ne os) _ _ os (λ x y n e a. a_truth _ _ os e) vs h all
typed-outputs op.Lt vs os all h = two_inputs (Typed op.Lt os) _ _ os (λ x y n e a. a_truth _ _ os e) vs h all
typed-outputs op.Le vs os all h = two_inputs (Typed op.Le os) _ _ os (λ x y n e a. a_truth _ _ os e) vs h all
typed-outputs op.Gt vs os all h = two_inputs (Typed op.Gt os) _ _ os (λ x y n e a. a_truth _ _ os e) vs h all
typed-outputs op.Ge vs os all h = two_inputs (Typed op.Ge os) _ _ os (λ x y n e a. a_truth _ _ os e) vs h all
typed-outputs op.Select vs os all h = three_inputs (Typed op.Select os) is_bool (λ s t. true) (λ s t f. selected t f) os (λ s t f n m e a. chosen_two s t f os e) vs h all
typed-outputs op.All vs os all h = one_input (Typed op.All os) _ os (λ x e a. a_truth _ _ os e) vs h all
typed-outputs op.Any vs os all h = one_input (Typed op.Any os) _ os (λ x e a. a_truth _ _ os e) vs h all
typed-outputs op.ArraySize vs os all h = one_input (Typed op.ArraySize os) _ os (λ x e a. a_number I32 (pos (length_at (out-Value x))) _ os e) vs h all
typed-outputs op.IndexArray vs os all h =
    two_inputs (Typed op.IndexArray os) is_array (λ a i. cond (is_num i) (single (item a)) None) os
    (λ a i n e all. let c = cond_is (is_num (type_of i)) (single (item (type_of a))) os e in
    let s = single_is (item (type_of a)) os c.1 in
    alone _ s.0 os (typed-indexed (out-Value a) (number_of i) s.0 (layer a (first a (i ∷ []) all)) (at_level (λ k. item_at k ≡ Some s.0) a s.1)) s.2) vs h all
typed-outputs op.Replace vs os all h =
    three_inputs (Typed op.Replace os) is_array (λ a i. is_num i) (λ a i e. when (is_assignable_to e (item a)) (a ∷ [])) os
    (λ a i e n m k all. like _ a os (typed-replaced (out-Value a) (number_of i) e (is_array_level a n)) (when_is _ (type_of a ∷ []) os k).1) vs h all
typed-outputs op.Build vs os all h =
    two_inputs (Typed op.Build os) is_array (λ a e. when (is_assignable_to e (item a)) (a ∷ [])) os
    (λ a e n k all. like _ a os (typed-built (out-Value a) e (is_array_level a n)) (when_is _ (type_of a ∷ []) os k).1) vs h all
typed-outputs op.Concat vs os all h =
    two_inputs (Typed op.Concat os) is_array (λ a b. when (same_type a b) (a ∷ [])) os
    (λ a b n k all. let w = when_is (same_type (type_of a) (type_of b)) (type_of a ∷ []) os k in
    like _ a os
    (typed-concat (out-Value a) (out-Value b) (layer a (first a (b ∷ []) all)) (layer b (second a b [] all)) (is_array_level a n) (sym (type_is a) ∙ same_type-true (type_of a) (type_of b) w.0 ∙ type_is b))
    w.1) vs h all
typed-outputs op.Initialize vs os all h =
    two_inputs (Typed op.Initialize os) _ (λ e n. when (is_num n) (ty.Arr e ∷ [])) os
    (λ e n i k all. alone _ (ty.Arr (type_of e)) os (typed-initialized e (number_of n)) (when_is (is_num (type_of n)) (ty.Arr (type_of e) ∷ []) os k).1) vs h all
typed-outputs op.Subset vs os all h =
    three_inputs (Typed op.Subset os) is_array (λ a i. is_num i) (λ a i n. when (is_num n) (a ∷ [])) os
    (λ a i n b c k all. like _ a os (typed-subset (out-Value a) (number_of i) (number_of n) (is_array_level a b)) (when_is _ (type_of a ∷ []) os k).1) vs h all
typed-outputs op.Delete vs os all h =
    three_inputs (Typed op.Delete os) is_array (λ a i. is_num i) (λ a i n. when (is_num n) (a ∷ a ∷ [])) os
    (λ a i n b c k all. let r = typed-deleted (out-Value a) (number_of i) (number_of n) (is_array_level a b) ∙ sym (type_is a) in
    let q = typed-subset (out-Value a) (number_of i) (number_of n) (is_array_level a b) ∙ sym (type_is a) in
    ap (λ t. t ∷ type_of (subset_at (out-Value a) (number_of i) (number_of n)) ∷ []) r ∙ ap (λ t. type_of a ∷ t ∷ []) q ∙ (when_is _ (type_of a ∷ type_of a ∷ []) os k).1) vs h all
typed-outputs op.Reverse vs os all h =
    one_input (Typed op.Reverse os) (λ a. when (is_array a) (a ∷ [])) os
    (λ a e all. let w = when_is (is_array (type_of a)) (type_of a ∷ []) os e in like _ a os (typed-reversed (out-Value a) (is_array_level a w.0)) w.1) vs h all
typed-outputs op.Sort vs os all h =
    one_input (Typed op.Sort os) (λ a. when (is_sortable a) (a ∷ [])) os
    (λ a e all. let w = when_is (is_sortable (type_of a)) (type_of a ∷ []) os e in like _ a os (typed-sorted (out-Value a) (is_array_level a (sortable (out-Ty (type_of a)) w.0))) w.1) vs h all
typed-outputs op.Sum vs os all h = one_input (Typed op.Sum os) (λ a. cond (is_nums a) (single (item a)) None) os (λ a e. sum_one plus (pos 0) os a e) vs h all
typed-outputs op.Product vs os all h = one_input (Typed op.Product os) (λ a. cond (is_nums a) (single (item a)) None) os (λ a e. sum_one times (pos 1) os a e) vs h all
typed-outputs op.Search vs os all h = two_inputs (Typed op.Search os) _ _ os (λ a x n e all. a_number I32 (searched_at (out-Value a) x) _ os e) vs h all
typed-outputs op.StrLen vs os all h = one_input (Typed op.StrLen os) _ os (λ x e a. a_number I32 (pos (length (text x))) _ os e) vs h all
typed-outputs op.StrConcat vs os all h = two_inputs (Typed op.StrConcat os) _ _ os (λ x y n e a. a_text _ _ os e) vs h all
typed-outputs op.StrSubset vs os all h = three_inputs (Typed op.StrSubset os) _ _ _ os (λ x i n b c e a. a_text _ _ os e) vs h all
typed-outputs op.StrBytes vs os all h = one_input (Typed op.StrBytes os) _ os (λ x e a. alone _ (ty.Arr (ty.Num U8)) os (type-Nums _) (when_is _ (ty.Arr (ty.Num U8) ∷ []) os e).1) vs h all
typed-outputs op.BytesStr vs os all h = one_input (Typed op.BytesStr os) _ os (λ x e a. a_text _ _ os e) vs h all
typed-outputs op.NumStr vs os all h = one_input (Typed op.NumStr os) _ os (λ x e a. a_text _ _ os e) vs h all
typed-outputs op.StrNum vs os all h = one_input (Typed op.StrNum os) _ os (λ x e a. told_types (integer (text x)) ∙ (when_is _ (ty.Num I64 ∷ ty.Bool ∷ []) os e).1) vs h all
typed-outputs op.Bundle vs os all h = bundled vs os h
typed-outputs op.Unbundle vs os all h = one_input (Typed op.Unbundle os) (λ c. parts_at (out-Ty c)) os (λ c e a. typed-parts (out-Value c) os (at_level (λ k. parts_at k ≡ Some os) c e)) vs h all
typed-outputs (op.Get n) vs os all h =
    one_input (Typed (op.Get n) os) (λ c. single (part n c)) os
    (λ c e a. let s = single_is (part n (type_of c)) os e in alone _ s.0 os (typed-part (out-Value c) n s.0 (at_level (λ k. part_of n (parts_at k) ≡ Some s.0) c s.1)) s.2) vs h all
typed-outputs (op.Set n) vs os all h =
    two_inputs (Typed (op.Set n) os) (λ c. is_known (part n c)) (λ c e. when (is_assignable_to e (part n c)) (c ∷ [])) os
    (λ c e i k a. let w = when_is (is_assignable_to (type_of e) (part n (type_of c))) (type_of c ∷ []) os k in
    like _ c os (typed-put (out-Value c) n e (second c e [] a) (at_level (λ m. is_assignable_to (type_of e) (part_of n (parts_at m)) ≡ true) c w.0)) w.1) vs h all

-- the outputs are proper values of the row's types
pub gives_row : (p : Primitive) (vs : List Value) (ts : List Ty) → All IsProper vs → row_of p (map type_of vs) ≡ Some ts → AreOfTypes ts (outputs_of p vs)
gives_row p vs ts all h = record { proper = proper-outputs p vs all (ap is_some h); of_types = typed-outputs p vs ts all h }
