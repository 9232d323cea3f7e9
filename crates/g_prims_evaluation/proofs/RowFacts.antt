-- What a row tells of the inputs' types.
use Rattle.std.proofs.Common.{◌≡◌, ◌≤◌, ℕ, Bool, true, false, not, cond, ◌&&◌, ◌||◌, List, [], ◌∷◌, length, Option, None, Some, refl, ap, sym, ◌∙◌, arith}
use Rattle.std.specs.Prelude.{is_some, nat_le}
use Rattle.std.specs.List.{list_all}
use Rattle.std.proofs.lemmas.Bool.Decides.{nat_tests}
use Rattle.g_types.specs.declared.ty.Ty.{Ty, out-Ty}
use Rattle.g_types.specs.declared.ty.Ty.TheOpen.{Ty-F}
use Rattle.g_types.specs.declared.ty.Ty.TheVariants as ty
use Rattle.g_types.specs.Same.{same_type}
use Rattle.g_types.specs.Ty.{depth, is_num, is_num_at, is_nums, is_nums_at}
use Rattle.g_types.proofs.SameLemmas.{same_type-true}
use Rattle.g_values.specs.Proper.{IsProper, IsLayer}
use Rattle.g_values.specs.Spelled.{is_array, is_array_at}
use Rattle.g_values.specs.Value.{type_of}
use Rattle.g_values.specs.declared.value.Value.{Value, out-Value}
use Rattle.g_values.specs.declared.value.Value.TheOpen.{Value-F}
use Rattle.g_prims_definitions.specs.Kinds.{is_bool_at, wide, wide_at, array_of, item, item_at, elementwise, elementwise_at, is_assignable, is_assignable_to}
use Rattle.g_prims_definitions.specs.Row.{Row, read, given, ends, repeated}
use Rattle.g_prims_definitions.specs.Rows.{single, when, is_element, is_shallow}
use Rattle.g_prims_evaluation.proofs.ProperNumbers.{HasTruths, arr_type, layer}
use Rattle.g_prims_evaluation.proofs.ProperArrays.{Fits, SameElements}

pub given_true : (p : Bool) (row : Row) (ts : List Ty) → is_some (read (given p row) ts) ≡ true → (p ≡ true) × (is_some (read row ts) ≡ true)
given_true true row ts h = (refl, h)
given_true false row ts h = absurd cc

pub when_true : (b : Bool) (outs : List Ty) → is_some (read (ends (when b outs)) []) ≡ true → b ≡ true
when_true true outs h = refl
when_true false outs h = absurd cc

pub single_known : (o : Option Ty) → is_some (read (ends (single o)) []) ≡ true → is_some o ≡ true
single_known None h = absurd cc
single_known (Some t) h = refl

pub both_true : (a b : Bool) → (a && b) ≡ true → (a ≡ true) × (b ≡ true)
both_true true b h = (refl, h)
both_true false b h = absurd cc

-- the second of two operands with bits

array_known : (o : Option Ty) → is_some (array_of o) ≡ true → is_some o ≡ true
array_known None h = absurd cc
array_known (Some t) h = refl

wide_with : (o : Option Ty) (t u v : Ty) → is_some (elementwise_at o (Some v) t u) ≡ true → (w : Ty) × (is_some (wide w v) ≡ true)
wide_with None t u v h = (t, array_known (wide t v) h)
wide_with (Some a) t u v h = (a, array_known (wide a v) h)

wide_bool_at : (l m : Ty-F Ty) → is_some (wide_at l m) ≡ true → is_num_at m ≡ false → is_bool_at m ≡ true
wide_bool_at (Ty-F.Num r) (Ty-F.Num s) h n = absurd cc
wide_bool_at Ty-F.Bool Ty-F.Bool h n = refl
wide_bool_at _ _ h n = absurd cc

second_truths : (t : Ty) (b : Value) (l : Value-F Value) → out-Value b ≡ l → IsLayer l → is_some (elementwise t (type_of b)) ≡ true → HasTruths l
second_truths t b (Value-F.Arr ys) e p h =
    let known : item (type_of b) ≡ Some ys.elem = ap item (arr_type b ys e) ∙ ap item_at (ty.outs-Arr ys.elem) in
    let w = wide_with (item t) t (type_of b) ys.elem (sym (ap (λ o. is_some (elementwise_at (item t) o t (type_of b))) known) ∙ h) in
    wide_bool_at (out-Ty w.0) (out-Ty ys.elem) w.1 p.no_number
second_truths t b _ e p h = tt

pub has_second_truths : (t : Ty) (b : Value) → IsProper b → is_some (elementwise t (type_of b)) ≡ true → HasTruths (out-Value b)
has_second_truths t b p h = second_truths t b (out-Value b) refl (layer b p) h

-- an element that is put into an array

same_only : (s a c : Bool) → (s || ((a && false) || (c && false))) ≡ true → s ≡ true
same_only true a c h = refl
same_only false true true h = absurd cc
same_only false true false h = absurd cc
same_only false false true h = absurd cc
same_only false false false h = absurd cc

no_nums_at : (k : Ty-F Ty) → is_array_at k ≡ false → is_nums_at k ≡ false
no_nums_at (Ty-F.Arr t) h = absurd cc
no_nums_at _ h = refl

same_element : (t u : Ty) → is_num u ≡ false → is_array u ≡ false → is_assignable t u ≡ true → t ≡ u
same_element t u n a h =
    let s = same_type t u in
    let x = is_num t in
    let z = is_nums t in
    let m = no_nums_at (out-Ty u) a in
    let one : (s || ((x && is_num u) || (z && is_nums u))) ≡ (s || ((x && false) || (z && is_nums u))) = ap (λ b. s || ((x && b) || (z && is_nums u))) n in
    let two : (s || ((x && false) || (z && is_nums u))) ≡ (s || ((x && false) || (z && false))) = ap (λ b. s || ((x && false) || (z && b))) m in
    same_type-true t u (same_only s x z (sym (one ∙ two) ∙ h))

fits_at : (a e : Value) (l : Value-F Value) → out-Value a ≡ l → IsLayer l → is_assignable_to (type_of e) (item (type_of a)) ≡ true → Fits l e
fits_at a e (Value-F.Arr xs) is p h =
    let known : item (type_of a) ≡ Some xs.elem = ap item (arr_type a xs is) ∙ ap item_at (ty.outs-Arr xs.elem) in
    same_element (type_of e) xs.elem p.no_number p.no_array (sym (ap (is_assignable_to (type_of e)) known) ∙ h)
fits_at a e _ is p h = tt

pub fits : (a e : Value) → IsProper a → is_assignable_to (type_of e) (item (type_of a)) ≡ true → Fits (out-Value a) e
fits a e p h = fits_at a e (out-Value a) refl (layer a p) h

-- two arrays of one type

or_else : Ty → Option Ty → Ty
or_else t None = t
or_else t (Some u) = u

same_items : (t u : Ty) → Some t ≡ Some u → t ≡ u
unfolding or_else
same_items t u e = ap (or_else t) e

same_elements_at : (a b : Value) (l m : Value-F Value) → out-Value a ≡ l → out-Value b ≡ m → type_of a ≡ type_of b → SameElements l m
same_elements_at a b (Value-F.Arr xs) (Value-F.Arr ys) e f h =
    let x : item (type_of a) ≡ Some xs.elem = ap item (arr_type a xs e) ∙ ap item_at (ty.outs-Arr xs.elem) in
    let y : item (type_of b) ≡ Some ys.elem = ap item (arr_type b ys f) ∙ ap item_at (ty.outs-Arr ys.elem) in
    same_items ys.elem xs.elem (sym y ∙ sym (ap item h) ∙ x)
same_elements_at a b _ _ e f h = tt

pub same_elements : (a b : Value) → same_type (type_of a) (type_of b) ≡ true → SameElements (out-Value a) (out-Value b)
same_elements a b h = same_elements_at a b (out-Value a) (out-Value b) refl refl (same_type-true (type_of a) (type_of b) h)

-- a type that an array's elements may have

not_true : (b : Bool) → not b ≡ true → b ≡ false
not_true true h = absurd cc
not_true false h = refl

pub shallow_is : (t : Ty) → is_shallow t ≡ true → depth t ≤ 7
shallow_is t h = grind (arith, nat_tests)

pub element_is : (t : Ty) → is_element t ≡ true → (is_array t ≡ false) × (depth t ≤ 7)
element_is t h =
    let b = both_true (not (is_array t)) (is_shallow t) h in
    (not_true (is_array t) b.0, shallow_is t b.1)

-- the inputs of a bundle

pub record IsBundle (ts : List Ty) : Type 0 where
  pub few : length ts ≤ 64
  pub shallow : list_all is_shallow ts ≡ true

passed : (b : Bool) (o : Option (List Ty)) → is_some (cond b o None) ≡ true → b ≡ true
passed true o h = refl
passed false o h = absurd cc

pub bundle_is : (t : Ty) (ts : List Ty) (outs : List Ty → List Ty) → is_some (repeated 64 is_shallow outs (t ∷ ts)) ≡ true → IsBundle (t ∷ ts)
bundle_is t ts outs h =
    let b = both_true (nat_le (length (t ∷ ts)) 64) (list_all is_shallow (t ∷ ts)) (passed (nat_le (length (t ∷ ts)) 64 && list_all is_shallow (t ∷ ts)) (Some (outs (t ∷ ts))) h) in
    let n = length (t ∷ ts) in
    let e : nat_le n 64 ≡ true = b.0 in
    record { few = few_of n e; shallow = b.1 }
  where
    few_of : (n : ℕ) → nat_le n 64 ≡ true → n ≤ 64
    few_of n e = grind (arith, nat_tests)
