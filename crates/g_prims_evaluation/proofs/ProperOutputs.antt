-- What a primitive gives for proper inputs whose types have a row is proper.
use Rattle.std.proofs.Common.{◌≡◌, ◌≤◌, ℤ, pos, Bool, true, false, cond, bit_and, bit_or, bit_xor, List, [], ◌∷◌, map, length, refl, ap, sym, ◌∙◌, arith}
use Rattle.std.specs.List.{All}
use Rattle.std.proofs.lemmas.List.{length-map}
use Rattle.std.proofs.lemmas.List.Elements.{All-nil, All-head, All-tail, All-replicate}
use Rattle.g_types.specs.declared.rep.Rep.{Rep}
use Rattle.g_types.specs.declared.rep.Rep.TheVariants.{I8, I16, I32, I64, U8, U16, U32, U64}
use Rattle.g_types.specs.declared.ty.Ty.{Ty, out-Ty}
use Rattle.g_types.specs.declared.ty.Ty.TheOpen.{Ty-F}
use Rattle.g_types.specs.declared.ty.Ty.TheVariants as ty
use Rattle.g_types.specs.Same.{same_type}
use Rattle.g_types.specs.Ty.{depth, is_num, is_num_at}
use Rattle.g_values.specs.Proper.{IsProper}
use Rattle.g_values.specs.Spelled.{is_array}
use Rattle.g_values.specs.Value.{type_of}
use Rattle.g_values.specs.declared.primitive.Primitive.{Primitive}
use Rattle.g_values.specs.declared.primitive.Primitive.TheVariants as op
use Rattle.g_values.specs.declared.value.Value.{Value, out-Value}
use Rattle.g_values.specs.declared.value.Value.TheVariants as value
use Rattle.g_values.specs.declared.value.Value.TheOpen.{Value-F}
use Rattle.g_values.specs.declared.value.Value.TheViews.{roll-Value, roll-out-Value}
use Rattle.g_values.proofs.ProperLemmas.{proper_bool, proper_nums}
use Rattle.g_values.proofs.ProperParts.{proper_array}
use Rattle.g_values.proofs.TypesOf.{type-Bool, type-Str, type-Nums, type-Arr, type-Cluster, type-Queue, type-Cell}
use Rattle.g_prims_definitions.specs.Arithmetic.{number, numbers_of, plus, minus, times, increased, decreased, negated, absolute, quotient, remainder, greater, lesser, arithmetic, each, converted}
use Rattle.g_prims_definitions.specs.Arrays.{number_of, length_at, searched_at, initialized_at, copies}
use Rattle.g_prims_definitions.specs.Bits.{truth, bitwise, by_bits, both, either, differs}
use Rattle.g_prims_definitions.specs.Comparisons.{chosen_at, chosen, select, truth_number}
use Rattle.g_prims_definitions.specs.Conditions.{HasRow}
use Rattle.g_prims_definitions.specs.Kinds.{has_bits, elementwise, is_assignable_to, item, part}
use Rattle.g_prims_definitions.specs.Row.{another, ends}
use Rattle.g_prims_definitions.specs.Rows.{single, is_element, is_known}
use Rattle.g_prims_definitions.specs.Strings.{text, integer}
use Rattle.g_prims_definitions.specs.Values.{outputs_of}
use Rattle.g_prims_evaluation.proofs.ProperNumbers.{layer, proper_one, proper_two, proper_number, proper-arithmetic, proper-each, proper-converted, proper-pair, proper-folded, proper-shift, proper-bitwise, proper-inverted, has_truths}
use Rattle.g_prims_evaluation.proofs.ProperArrays.{kept, few_copies, proper-subset, proper-deleted, proper-reversed, proper-sorted, proper-indexed, proper-replaced, proper-built, proper-concat}
use Rattle.g_prims_evaluation.proofs.ProperTexts.{proper-joined, proper-part, proper-bytes, proper-text, proper-decimal, proper-told, proper-parts, proper-part_at, proper-put, proper-bundled}
use Rattle.g_prims_evaluation.proofs.RowFacts.{given_true, when_true, single_known, has_second_truths, fits, same_elements, element_is, bundle_is}

first : (v : Value) (vs : List Value) → All IsProper (v ∷ vs) → IsProper v
first v vs all = All-head IsProper v vs all

second : (v w : Value) (vs : List Value) → All IsProper (v ∷ w ∷ vs) → IsProper w
second v w vs all = All-head IsProper w vs (All-tail IsProper v (w ∷ vs) all)

third : (v w u : Value) (vs : List Value) → All IsProper (v ∷ w ∷ u ∷ vs) → IsProper u
third v w u vs all = second w u vs (All-tail IsProper v (w ∷ u ∷ vs) all)

a_truth : (b : Bool) → All IsProper (value.Bool b ∷ [])
a_truth b = proper_one (value.Bool b) (proper_bool b)

a_number : (r : Rep) (n : ℤ) → All IsProper (number r n ∷ [])
a_number r n = proper_one (number r n) (proper_number r n)

-- numbers

on_two : (f : ℤ → ℤ → ℤ) (x y : Value) → All IsProper (x ∷ y ∷ []) → All IsProper (arithmetic f x y ∷ [])
on_two f x y all = proper_one _ (proper-arithmetic f (out-Value x) (out-Value y) (layer x (first x (y ∷ []) all)) (layer y (second x y [] all)))

on_one : (f : ℤ → ℤ) (x : Value) → All IsProper (x ∷ []) → All IsProper (each f x ∷ [])
on_one f x all = proper_one _ (proper-each f (out-Value x) (layer x (first x [] all)))

to : (r : Rep) (x : Value) → All IsProper (x ∷ []) → All IsProper (converted r x ∷ [])
to r x all = proper_one _ (proper-converted r (out-Value x) (layer x (first x [] all)))

on_bits : (f : ℤ → ℤ → ℤ) (g : Bool → Bool → Bool) (x y : Value) → All IsProper (x ∷ y ∷ []) → HasRow op.And (x ∷ y ∷ []) → All IsProper (bitwise f g x y ∷ [])
on_bits f g x y all h =
    let p = first x (y ∷ []) all in
    let q = second x y [] all in
    let b = given_true (has_bits (type_of x)) (another (λ u. ends (single (elementwise (type_of x) u)))) (type_of y ∷ []) h in
    proper_one _ (proper-bitwise f g (out-Value x) (out-Value y) (layer x p) (layer y q) (has_truths x p b.0) (has_second_truths (type_of x) y q (single_known (elementwise (type_of x) (type_of y)) b.1)))

-- a choice

chosen_level : (a b : Value-F Value) (v : Value) → IsProper v → IsProper (chosen_at a b v)
chosen_level (Value-F.Num x) (Value-F.Num y) v p = proper_number _ x.n
chosen_level _ _ v p = p

one_of : (c : Bool) (v w : Value) → IsProper v → IsProper w → IsProper (cond c v w)
one_of true v w p q = p
one_of false v w p q = q

selected : (s t f : Value) → IsProper t → IsProper f → IsProper (select s t f)
selected s t f p q = one_of _ (chosen t f) (chosen f t) (chosen_level (out-Value t) (out-Value f) t p) (chosen_level (out-Value f) (out-Value t) f q)

-- copies of an element

filled : (e : Value) (n : ℤ) → IsProper e → is_num (type_of e) ≡ false → is_array (type_of e) ≡ false → depth (type_of e) ≤ 7 → IsProper (value.Arr (record { elem = type_of e; items = copies n e }))
filled e n p no_number no_array few =
    proper_array (record { elem = type_of e; items = copies n e })
    (record { few = few_copies n e; one_type = All-replicate (λ v. type_of v ≡ type_of e) _ e refl; no_number = no_number; no_array = no_array })
    (omega arith)
    p.spelled
    (All-replicate IsProper _ e p)

no_number : (e w : Value) (t : Ty) (m : Ty-F Ty) → e ≡ w → type_of w ≡ t → out-Ty t ≡ m → is_num_at m ≡ false → is_num (type_of e) ≡ false
no_number e w t m f g h i = ap is_num (ap type_of f ∙ g) ∙ ap is_num_at h ∙ i

initialized : (e : Value) (l : Value-F Value) (n : ℤ) → out-Value e ≡ l → IsProper e → is_array (type_of e) ≡ false → depth (type_of e) ≤ 7 → IsProper (initialized_at l n e)
initialized e (Value-F.Num x) n is p a d = proper_nums (numbers_of x.rep (copies n x.n)) (few_copies n x.n)
initialized e (Value-F.Bool x) n is p a d = filled e n p (no_number e (value.Bool x) _ _ (sym (roll-out-Value e) ∙ ap roll-Value is ∙ value.rolls-Bool x) (type-Bool x) ty.outs-Bool refl) a d
initialized e (Value-F.Str x) n is p a d = filled e n p (no_number e (value.Str x) _ _ (sym (roll-out-Value e) ∙ ap roll-Value is ∙ value.rolls-Str x) (type-Str x) ty.outs-Str refl) a d
initialized e (Value-F.Nums x) n is p a d = filled e n p (no_number e (value.Nums x) _ _ (sym (roll-out-Value e) ∙ ap roll-Value is ∙ value.rolls-Nums x) (type-Nums x) (ty.outs-Arr _) refl) a d
initialized e (Value-F.Arr x) n is p a d = filled e n p (no_number e (value.Arr x) _ _ (sym (roll-out-Value e) ∙ ap roll-Value is ∙ value.rolls-Arr x) (type-Arr x) (ty.outs-Arr _) refl) a d
initialized e (Value-F.Cluster x) n is p a d = filled e n p (no_number e (value.Cluster x) _ _ (sym (roll-out-Value e) ∙ ap roll-Value is ∙ value.rolls-Cluster x) (type-Cluster x) (ty.outs-Cluster _) refl) a d
initialized e (Value-F.Queue x) n is p a d = filled e n p (no_number e (value.Queue x) _ _ (sym (roll-out-Value e) ∙ ap roll-Value is ∙ value.rolls-Queue x) (type-Queue x) (ty.outs-QueueRef _) refl) a d
initialized e (Value-F.Cell x) n is p a d = filled e n p (no_number e (value.Cell x) _ _ (sym (roll-out-Value e) ∙ ap roll-Value is ∙ value.rolls-Cell x) (type-Cell x) (ty.outs-ValueRef _) refl) a d

-- a bundle has as many types as values
bundled_few : (vs : List Value) → length (map type_of vs) ≤ 64 → length vs ≤ 64
bundled_few vs h = let e = length-map vs type_of in omega arith

-- the law

pub proper-outputs : (p : Primitive) (vs : List Value) → All IsProper vs → HasRow p vs → All IsProper (outputs_of p vs)
proper-outputs op.Add (x ∷ y ∷ []) all h = on_two plus x y all
proper-outputs op.Sub (x ∷ y ∷ []) all h = on_two minus x y all
proper-outputs op.Mul (x ∷ y ∷ []) all h = on_two times x y all
proper-outputs op.Inc (x ∷ []) all h = on_one increased x all
proper-outputs op.Dec (x ∷ []) all h = on_one decreased x all
proper-outputs op.Neg (x ∷ []) all h = on_one negated x all
proper-outputs op.Abs (x ∷ []) all h = on_one absolute x all
proper-outputs op.QuotRem (x ∷ y ∷ []) all h = proper-pair quotient remainder (out-Value x) (out-Value y)
proper-outputs op.MaxMin (x ∷ y ∷ []) all h = proper-pair greater lesser (out-Value x) (out-Value y)
proper-outputs op.And (x ∷ y ∷ []) all h = on_bits (by_bits bit_and) both x y all h
proper-outputs op.Or (x ∷ y ∷ []) all h = on_bits (by_bits bit_or) either x y all h
proper-outputs op.Xor (x ∷ y ∷ []) all h = on_bits (by_bits bit_xor) differs x y all h
proper-outputs op.Not (x ∷ []) all h =
    let p = first x [] all in
    proper_one _ (proper-inverted (out-Value x) (layer x p) (has_truths x p (when_true (has_bits (type_of x)) (type_of x ∷ []) h)))
proper-outputs op.Shift (x ∷ n ∷ []) all h = proper_one _ (proper-shift (out-Value x) (out-Value n))
proper-outputs op.ToI8 (x ∷ []) all h = to I8 x all
proper-outputs op.ToI16 (x ∷ []) all h = to I16 x all
proper-outputs op.ToI32 (x ∷ []) all h = to I32 x all
proper-outputs op.ToI64 (x ∷ []) all h = to I64 x all
proper-outputs op.ToU8 (x ∷ []) all h = to U8 x all
proper-outputs op.ToU16 (x ∷ []) all h = to U16 x all
proper-outputs op.ToU32 (x ∷ []) all h = to U32 x all
proper-outputs op.ToU64 (x ∷ []) all h = to U64 x all
proper-outputs op.BoolInt (b ∷ []) all h = a_number I16 (truth_number (truth b))
proper-outputs op.Eq (x ∷ y ∷ []) all h = a_truth _
proper-outputs op.Ne (x ∷ y ∷ []) all h = a_truth _
proper-outputs op.Lt (x ∷ y ∷ []) all h = a_truth _
proper-outputs op.Le (x ∷ y ∷ []) all h = a_truth _
proper-outputs op.Gt (x ∷ y ∷ []) all h = a_truth _
proper-outputs op.Ge (x ∷ y ∷ []) all h = a_truth _
proper-outputs op.Select (c ∷ t ∷ f ∷ []) all h = proper_one _ (selected c t f (second c t (f ∷ []) all) (third c t f [] all))
proper-outputs op.All (a ∷ []) all h = a_truth _
proper-outputs op.Any (a ∷ []) all h = a_truth _
proper-outputs op.ArraySize (a ∷ []) all h = a_number I32 (pos (length_at (out-Value a)))
proper-outputs op.IndexArray (a ∷ i ∷ []) all h = proper_one _ (proper-indexed (out-Value a) (number_of i) (kept a (first a (i ∷ []) all)))
proper-outputs op.Replace (a ∷ i ∷ e ∷ []) all h =
    let p = first a (i ∷ e ∷ []) all in
    let b = given_true (is_array (type_of a)) _ (type_of i ∷ type_of e ∷ []) h in
    let c = given_true (is_num (type_of i)) _ (type_of e ∷ []) b.1 in
    let d = when_true (is_assignable_to (type_of e) (item (type_of a))) _ c.1 in
    proper_one _ (proper-replaced (out-Value a) (number_of i) e (kept a p) (fits a e p d) (third a i e [] all))
proper-outputs op.Build (a ∷ e ∷ []) all h =
    let p = first a (e ∷ []) all in
    let b = given_true (is_array (type_of a)) _ (type_of e ∷ []) h in
    let d = when_true (is_assignable_to (type_of e) (item (type_of a))) _ b.1 in
    proper_one _ (proper-built (out-Value a) e (kept a p) (fits a e p d) (second a e [] all))
proper-outputs op.Concat (a ∷ b ∷ []) all h =
    let c = given_true (is_array (type_of a)) _ (type_of b ∷ []) h in
    let d = when_true (same_type (type_of a) (type_of b)) _ c.1 in
    proper_one _ (proper-concat (out-Value a) (out-Value b) (kept a (first a (b ∷ []) all)) (kept b (second a b [] all)) (same_elements a b d))
proper-outputs op.Initialize (e ∷ n ∷ []) all h =
    let b = given_true (is_element (type_of e)) _ (type_of n ∷ []) h in
    let d = element_is (type_of e) b.0 in
    proper_one _ (initialized e (out-Value e) (number_of n) refl (first e (n ∷ []) all) d.0 d.1)
proper-outputs op.Subset (a ∷ i ∷ n ∷ []) all h = proper_one _ (proper-subset (out-Value a) (number_of i) (number_of n) (kept a (first a (i ∷ n ∷ []) all)))
proper-outputs op.Delete (a ∷ i ∷ n ∷ []) all h =
    let k = kept a (first a (i ∷ n ∷ []) all) in
    proper_two _ _ (proper-deleted (out-Value a) (number_of i) (number_of n) k) (proper-subset (out-Value a) (number_of i) (number_of n) k)
proper-outputs op.Reverse (a ∷ []) all h = proper_one _ (proper-reversed (out-Value a) (kept a (first a [] all)))
proper-outputs op.Sort (a ∷ []) all h = proper_one _ (proper-sorted (out-Value a) (kept a (first a [] all)))
proper-outputs op.Sum (a ∷ []) all h = proper_one _ (proper-folded plus (pos 0) (out-Value a))
proper-outputs op.Product (a ∷ []) all h = proper_one _ (proper-folded times (pos 1) (out-Value a))
proper-outputs op.Search (a ∷ e ∷ []) all h = a_number I32 (searched_at (out-Value a) e)
proper-outputs op.StrLen (x ∷ []) all h = a_number I32 (pos (length (text x)))
proper-outputs op.StrConcat (x ∷ y ∷ []) all h = proper_one _ (proper-joined (text x) (text y))
proper-outputs op.StrSubset (x ∷ i ∷ n ∷ []) all h = proper_one _ (proper-part (out-Value x) (number_of i) (number_of n) (kept x (first x (i ∷ n ∷ []) all)))
proper-outputs op.StrBytes (x ∷ []) all h = proper_one _ (proper-bytes (out-Value x) (kept x (first x [] all)))
proper-outputs op.BytesStr (a ∷ []) all h = proper_one _ (proper-text (out-Value a) (kept a (first a [] all)))
proper-outputs op.NumStr (x ∷ []) all h = proper_one _ (proper-decimal (out-Value x))
proper-outputs op.StrNum (x ∷ []) all h = proper-told (integer (text x))
proper-outputs op.Bundle (v ∷ vs) all h =
    let b = bundle_is (type_of v) (map type_of vs) (λ ts. ty.Cluster ts ∷ []) h in
    proper_one _ (proper-bundled v vs all (bundled_few (v ∷ vs) b.few) b.shallow)
proper-outputs op.Bundle [] all h = absurd cc
proper-outputs op.Unbundle (c ∷ []) all h = proper-parts (out-Value c) (kept c (first c [] all))
proper-outputs (op.Get k) (c ∷ []) all h = proper_one _ (proper-part_at _ k (proper-parts (out-Value c) (kept c (first c [] all))))
proper-outputs (op.Set k) (c ∷ e ∷ []) all h =
    let b = given_true (is_known (part k (type_of c))) _ (type_of e ∷ []) h in
    let d = when_true (is_assignable_to (type_of e) (part k (type_of c))) _ b.1 in
    proper_one _ (proper-put c k e (kept c (first c (e ∷ []) all)) (second c e [] all) d)
proper-outputs _ _ all h = All-nil IsProper
