-- How many inputs a row has, and how many values an operation gives that takes an input.
use Rattle.std.proofs.Common.{◌≡◌, ℕ, Bool, true, false, List, [], ◌∷◌, map, length, Option, None, Some, refl, ap, sym, ◌∙◌, arith}
use Rattle.std.specs.Prelude.{is_some}
use Rattle.std.proofs.lemmas.List.{length-map}
use Rattle.g_types.specs.declared.ty.Ty.{Ty, out-Ty}
use Rattle.g_types.specs.declared.ty.Ty.TheOpen.{Ty-F}
use Rattle.g_types.specs.declared.ty.Ty.TheVariants as ty
use Rattle.g_types.specs.Ty.{is_num}
use Rattle.g_values.specs.Spelled.{is_array}
use Rattle.g_values.specs.Value.{type_of}
use Rattle.g_values.specs.declared.value.Value.{Value, out-Value}
use Rattle.g_values.specs.declared.value.Value.TheOpen.{Value-F}
use Rattle.g_values.specs.declared.value.Value.TheVariants as value
use Rattle.g_values.specs.declared.value.Value.TheViews.{roll-Value, roll-out-Value}
use Rattle.g_values.specs.declared.primitive.Primitive.{Primitive}
use Rattle.g_values.specs.declared.primitive.Primitive.TheVariants as op
use Rattle.g_values.proofs.TypesOf.{type-Num, type-Bool, type-Str, type-Nums, type-Arr, type-Cluster, type-Queue, type-Cell}
use Rattle.g_prims_definitions.specs.Clusters as clusters
use Rattle.g_prims_definitions.specs.Kinds as kinds
use Rattle.g_prims_definitions.specs.Row.{read, ends, given, another, one, two, three}
use Rattle.g_prims_definitions.specs.Rows.{row_of, selected, when}
use Rattle.g_prims_definitions.specs.Takes.{takes}
use Rattle.g_prims_definitions.specs.Values.{outputs_of}
use Rattle.g_prims_evaluation.proofs.RowFacts.{given_true}

more : (o : Option (List Ty)) (t : Ty) (ts : List Ty) → is_some (read (ends o) (t ∷ ts)) ≡ true → true ≡ false
more None t ts h = absurd cc
more (Some outs) t ts h = absurd cc

pub one_long : (outs : Ty → Option (List Ty)) (ts : List Ty) → is_some (read (one outs) ts) ≡ true → length ts ≡ 1
one_long outs [] h = absurd cc
one_long outs (t ∷ []) h = refl
one_long outs (t ∷ u ∷ ts) h = absurd (let e = more (outs t) u ts h in cc)

pub two_long : (first : Ty → Bool) (outs : Ty → Ty → Option (List Ty)) (ts : List Ty) → is_some (read (two first outs) ts) ≡ true → length ts ≡ 2
two_long first outs [] h = absurd cc
two_long first outs (t ∷ []) h = absurd (let e = (given_true (first t) (another (λ y. ends (outs t y))) [] h).1 in cc)
two_long first outs (t ∷ u ∷ []) h = refl
two_long first outs (t ∷ u ∷ v ∷ ts) h =
    absurd (let e = more (outs t u) v ts (given_true (first t) (another (λ y. ends (outs t y))) (u ∷ v ∷ ts) h).1 in cc)

pub three_long : (first : Ty → Bool) (second : Ty → Ty → Bool) (outs : Ty → Ty → Ty → Option (List Ty)) (ts : List Ty) → is_some (read (three first second outs) ts) ≡ true → length ts ≡ 3
three_long first second outs [] h = absurd cc
three_long first second outs (t ∷ ts) h =
    let after = given_true (first t) (another (λ y. given (second t y) (another (λ z. ends (outs t y z))))) ts h in
    rest t ts after.1
  where
    rest : (t : Ty) (ts : List Ty) → is_some (read (another (λ y. given (second t y) (another (λ z. ends (outs t y z))))) ts) ≡ true → length (t ∷ ts) ≡ 3
    rest t [] g = absurd cc
    rest t (u ∷ []) g = absurd (let e = (given_true (second t u) (another (λ z. ends (outs t u z))) [] g).1 in cc)
    rest t (u ∷ v ∷ []) g = refl
    rest t (u ∷ v ∷ w ∷ us) g =
        absurd (let e = more (outs t u v) w us (given_true (second t u) (another (λ z. ends (outs t u z))) (v ∷ w ∷ us) g).1 in cc)

-- values where the row has so many inputs

by_one : (f : List Value → List Value) → ((x : Value) → length (f (x ∷ [])) ≡ 1) → (vs : List Value) → length (map type_of vs) ≡ 1 → length (f vs) ≡ 1
by_one f e [] h = absurd (omega arith)
by_one f e (x ∷ []) h = e x
by_one f e (x ∷ y ∷ vs) h = absurd (omega arith)

by_two : (f : List Value → List Value) → ((x y : Value) → length (f (x ∷ y ∷ [])) ≡ 1) → (vs : List Value) → length (map type_of vs) ≡ 2 → length (f vs) ≡ 1
by_two f e [] h = absurd (omega arith)
by_two f e (x ∷ []) h = absurd (omega arith)
by_two f e (x ∷ y ∷ []) h = e x y
by_two f e (x ∷ y ∷ z ∷ vs) h = absurd (omega arith)

by_three : (f : List Value → List Value) → ((x y z : Value) → length (f (x ∷ y ∷ z ∷ [])) ≡ 1) → (vs : List Value) → length (map type_of vs) ≡ 3 → length (f vs) ≡ 1
by_three f e [] h = absurd (omega arith)
by_three f e (x ∷ []) h = absurd (omega arith)
by_three f e (x ∷ y ∷ []) h = absurd (omega arith)
by_three f e (x ∷ y ∷ z ∷ []) h = e x y z
by_three f e (x ∷ y ∷ z ∷ w ∷ vs) h = absurd (omega arith)

of_one : (outs : Ty → Option (List Ty)) (f : List Value → List Value) → ((x : Value) → length (f (x ∷ [])) ≡ 1) → (vs : List Value) (t : Ty) → read (one outs) (map type_of vs) ≡ Some (t ∷ []) → length (f vs) ≡ 1
of_one outs f e vs t h = by_one f e vs (one_long outs (map type_of vs) (ap is_some h))

of_two : (first : Ty → Bool) (outs : Ty → Ty → Option (List Ty)) (f : List Value → List Value) → ((x y : Value) → length (f (x ∷ y ∷ [])) ≡ 1) → (vs : List Value) (t : Ty) → read (two first outs) (map type_of vs) ≡ Some (t ∷ []) → length (f vs) ≡ 1
of_two first outs f e vs t h = by_two f e vs (two_long first outs (map type_of vs) (ap is_some h))

of_three : (first : Ty → Bool) (second : Ty → Ty → Bool) (outs : Ty → Ty → Ty → Option (List Ty)) (f : List Value → List Value) → ((x y z : Value) → length (f (x ∷ y ∷ z ∷ [])) ≡ 1) → (vs : List Value) (t : Ty)
    → read (three first second outs) (map type_of vs) ≡ Some (t ∷ []) → length (f vs) ≡ 1
of_three first second outs f e vs t h = by_three f e vs (three_long first second outs (map type_of vs) (ap is_some h))

-- the elements of a cluster whose type has one

count : Option (List Ty) → ℕ
count None = 0
count (Some ts) = length ts

counted : (a w : Value) (t : Ty) (m : Ty-F Ty) → a ≡ w → type_of w ≡ t → out-Ty t ≡ m → count (kinds.parts (type_of a)) ≡ count (kinds.parts_at m)
counted a w t m e f g = ap (λ z. count (kinds.parts z)) (ap type_of e ∙ f) ∙ ap (λ z. count (kinds.parts_at z)) g

parts_count : (a : Value) (l : Value-F Value) → out-Value a ≡ l → count (kinds.parts (type_of a)) ≡ 1 → length (clusters.parts_at l) ≡ 1
unfolding count
parts_count a (Value-F.Cluster vs) is h =
    let e = counted a (value.Cluster vs) _ _ (sym (roll-out-Value a) ∙ ap roll-Value is ∙ value.rolls-Cluster vs) (type-Cluster vs) (ty.outs-Cluster (map type_of vs)) in
    sym (length-map vs type_of) ∙ sym e ∙ h
parts_count a (Value-F.Num x) is h = absurd (let e = sym (counted a (value.Num x) _ _ (sym (roll-out-Value a) ∙ ap roll-Value is ∙ value.rolls-Num x) (type-Num x) (ty.outs-Num x.rep)) ∙ h in cc)
parts_count a (Value-F.Bool x) is h = absurd (let e = sym (counted a (value.Bool x) _ _ (sym (roll-out-Value a) ∙ ap roll-Value is ∙ value.rolls-Bool x) (type-Bool x) ty.outs-Bool) ∙ h in cc)
parts_count a (Value-F.Str x) is h = absurd (let e = sym (counted a (value.Str x) _ _ (sym (roll-out-Value a) ∙ ap roll-Value is ∙ value.rolls-Str x) (type-Str x) ty.outs-Str) ∙ h in cc)
parts_count a (Value-F.Nums x) is h = absurd (let e = sym (counted a (value.Nums x) _ _ (sym (roll-out-Value a) ∙ ap roll-Value is ∙ value.rolls-Nums x) (type-Nums x) (ty.outs-Arr (ty.Num x.rep))) ∙ h in cc)
parts_count a (Value-F.Arr x) is h = absurd (let e = sym (counted a (value.Arr x) _ _ (sym (roll-out-Value a) ∙ ap roll-Value is ∙ value.rolls-Arr x) (type-Arr x) (ty.outs-Arr x.elem)) ∙ h in cc)
parts_count a (Value-F.Queue x) is h = absurd (let e = sym (counted a (value.Queue x) _ _ (sym (roll-out-Value a) ∙ ap roll-Value is ∙ value.rolls-Queue x) (type-Queue x) (ty.outs-QueueRef x.elem)) ∙ h in cc)
parts_count a (Value-F.Cell x) is h = absurd (let e = sym (counted a (value.Cell x) _ _ (sym (roll-out-Value a) ∙ ap roll-Value is ∙ value.rolls-Cell x) (type-Cell x) (ty.outs-ValueRef x.elem)) ∙ h in cc)

by_parts : (vs : List Value) (t : Ty) → length (map type_of vs) ≡ 1 → read (one kinds.parts) (map type_of vs) ≡ Some (t ∷ []) → length (outputs_of op.Unbundle vs) ≡ 1
unfolding count
by_parts [] t n h = absurd (omega arith)
by_parts (x ∷ []) t n h = parts_count x (out-Value x) refl (counted_row (kinds.parts (type_of x)) h)
  where
    counted_row : (o : Option (List Ty)) → read (ends o) [] ≡ Some (t ∷ []) → count o ≡ 1
    counted_row None g = absurd cc
    counted_row (Some ts) g = ap count g
by_parts (x ∷ y ∷ vs) t n h = absurd (omega arith)

two_given : (b : Bool) (a : Ty) (t : Ty) → read (ends (when b (a ∷ a ∷ []))) [] ≡ Some (t ∷ []) → true ≡ false
two_given true a t h = absurd cc
two_given false a t h = absurd cc

delete_gives : (vs : List Value) (t : Ty) → length (map type_of vs) ≡ 3 → row_of op.Delete (map type_of vs) ≡ Some (t ∷ []) → true ≡ false
delete_gives [] t n h = absurd (omega arith)
delete_gives (x ∷ []) t n h = absurd (omega arith)
delete_gives (x ∷ y ∷ []) t n h = absurd (omega arith)
delete_gives (x ∷ y ∷ z ∷ []) t n h = from (is_array (type_of x)) h
  where
    given_count : (b : Bool) → read (given b (another (λ n. ends (when (is_num n) (type_of x ∷ type_of x ∷ []))))) (type_of z ∷ []) ≡ Some (t ∷ []) → true ≡ false
    given_count true g = two_given (is_num (type_of z)) (type_of x) t g
    given_count false g = absurd cc

    from : (a : Bool) → read (given a (another (λ i. given (is_num i) (another (λ n. ends (when (is_num n) (type_of x ∷ type_of x ∷ []))))))) (type_of y ∷ type_of z ∷ []) ≡ Some (t ∷ []) → true ≡ false
    from true g = given_count (is_num (type_of y)) g
    from false g = absurd cc
delete_gives (x ∷ y ∷ z ∷ w ∷ vs) t n h = absurd (omega arith)

-- An operation that takes an input, and whose row has one output, gives one value.
pub one_value : (p : Primitive) (vs : List Value) (at : ℕ) (t : Ty) → row_of p (map type_of vs) ≡ Some (t ∷ []) → takes p (map type_of vs) at ≡ true → length (outputs_of p vs) ≡ 1
one_value op.Inc vs at t h k = of_one _ (outputs_of op.Inc) (λ x. refl) vs t h
one_value op.Dec vs at t h k = of_one _ (outputs_of op.Dec) (λ x. refl) vs t h
one_value op.Neg vs at t h k = of_one _ (outputs_of op.Neg) (λ x. refl) vs t h
one_value op.Abs vs at t h k = of_one _ (outputs_of op.Abs) (λ x. refl) vs t h
one_value op.Not vs at t h k = of_one _ (outputs_of op.Not) (λ x. refl) vs t h
one_value op.ToI8 vs at t h k = of_one _ (outputs_of op.ToI8) (λ x. refl) vs t h
one_value op.ToI16 vs at t h k = of_one _ (outputs_of op.ToI16) (λ x. refl) vs t h
one_value op.ToI32 vs at t h k = of_one _ (outputs_of op.ToI32) (λ x. refl) vs t h
one_value op.ToI64 vs at t h k = of_one _ (outputs_of op.ToI64) (λ x. refl) vs t h
one_value op.ToU8 vs at t h k = of_one _ (outputs_of op.ToU8) (λ x. refl) vs t h
one_value op.ToU16 vs at t h k = of_one _ (outputs_of op.ToU16) (λ x. refl) vs t h
one_value op.ToU32 vs at t h k = of_one _ (outputs_of op.ToU32) (λ x. refl) vs t h
one_value op.ToU64 vs at t h k = of_one _ (outputs_of op.ToU64) (λ x. refl) vs t h
one_value op.Reverse vs at t h k = of_one _ (outputs_of op.Reverse) (λ x. refl) vs t h
one_value op.Sort vs at t h k = of_one _ (outputs_of op.Sort) (λ x. refl) vs t h
one_value op.StrBytes vs at t h k = of_one _ (outputs_of op.StrBytes) (λ x. refl) vs t h
one_value op.BytesStr vs at t h k = of_one _ (outputs_of op.BytesStr) (λ x. refl) vs t h
one_value op.Add vs at t h k = of_two _ _ (outputs_of op.Add) (λ x y. refl) vs t h
one_value op.Sub vs at t h k = of_two _ _ (outputs_of op.Sub) (λ x y. refl) vs t h
one_value op.Mul vs at t h k = of_two _ _ (outputs_of op.Mul) (λ x y. refl) vs t h
one_value op.And vs at t h k = of_two _ _ (outputs_of op.And) (λ x y. refl) vs t h
one_value op.Or vs at t h k = of_two _ _ (outputs_of op.Or) (λ x y. refl) vs t h
one_value op.Xor vs at t h k = of_two _ _ (outputs_of op.Xor) (λ x y. refl) vs t h
one_value op.Build vs at t h k = of_two _ _ (outputs_of op.Build) (λ x y. refl) vs t h
one_value op.Concat vs at t h k = of_two _ _ (outputs_of op.Concat) (λ x y. refl) vs t h
one_value op.StrConcat vs at t h k = of_two _ _ (outputs_of op.StrConcat) (λ x y. refl) vs t h
one_value (op.Set i) vs at t h k = of_two _ _ (outputs_of (op.Set i)) (λ x y. refl) vs t h
one_value op.Select vs at t h k = of_three kinds.is_bool (λ s u. true) (λ s u f. selected u f) (outputs_of op.Select) (λ x y z. refl) vs t h
one_value op.Replace vs at t h k = of_three _ _ _ (outputs_of op.Replace) (λ x y z. refl) vs t h
one_value op.Subset vs at t h k = of_three _ _ _ (outputs_of op.Subset) (λ x y z. refl) vs t h
one_value op.StrSubset vs at t h k = of_three _ _ _ (outputs_of op.StrSubset) (λ x y z. refl) vs t h
one_value op.Bundle vs at t h k = refl
one_value op.Unbundle vs at t h k = by_parts vs t (one_long kinds.parts (map type_of vs) (ap is_some h)) h
one_value op.Delete vs at t h k = absurd (let e = delete_gives vs t (three_long _ _ _ (map type_of vs) (ap is_some h)) h in cc)
one_value _ vs at t h k = absurd cc
