-- Which inputs there are, and where the kept one stands.
use Rattle.std.proofs.Common.{◌≡◌, ◌≤◌, ◌+◌, ◌≢◌, ℕ, zero, suc, true, false, List, [], ◌∷◌, map, length, set, take, drop, refl, ap, sym, ◌∙◌, subst, arith}
use Rattle.std.specs.Prelude.{is_some, slice_get}
use Rattle.std.specs.List.{All}
use Rattle.std.proofs.lemmas.List.{length-map}
use Rattle.std.proofs.lemmas.List.Elements.{All-cons, All-head, All-append, All-take, All-drop, All-same}
use Rattle.g_types.specs.declared.ty.Ty.{Ty}
use Rattle.g_values.specs.Proper.{IsProper}
use Rattle.g_values.specs.Value.{type_of}
use Rattle.g_values.specs.declared.value.Value.{Value}
use Rattle.g_values.specs.declared.primitive.Primitive.{Primitive}
use Rattle.g_values.specs.declared.primitive.Primitive.TheVariants as op
use Rattle.g_prims_definitions.specs.Conditions.{AreEqualTypes}
use Rattle.g_prims_definitions.proofs.RowLemmas.{equal_types}
use Rattle.g_prims_definitions.specs.Kinds.{is_bool}
use Rattle.g_prims_definitions.specs.Rows.{selected}
use Rattle.g_prims_definitions.specs.Takes.{takes}
use Rattle.g_prims_definitions.specs.Values.{outputs_of}
use Rattle.g_prims_evaluation.proofs.ProperOutputs.{proper-outputs}
use Rattle.g_arrays.specs.Acting.{Acts, ReadsStay, input, placed, reads_others, takes_both, takes_first, takes_first_of_three, takes_only, takes_second}
use Rattle.g_arrays.proofs.RowLengths.{two_long, three_long, one_value}

placed_long : (at : ℕ) (k : Value) (vs : List Value) → length (placed at k vs) ≡ length vs + 1
placed_long zero k vs = omega arith
placed_long (suc at) k [] = refl
placed_long (suc at) k (v ∷ vs) = let e = placed_long at k vs in omega arith

others_long : (n at : ℕ) (k : Value) (vs : List Value) → length (map type_of (placed at k vs)) ≡ n + 1 → length vs ≡ n
others_long n at k vs h =
    let e = length-map (placed at k vs) type_of in
    let f = placed_long at k vs in
    omega arith

-- an operation that takes the first input takes no other before it
front : (p : Primitive) (at : ℕ) (ts : List Ty) → Acts p at ts → takes p ts 0 ≡ true → at ≡ 0
front p zero ts a h = refl
front p (suc at) ts a h = absurd (let e = sym (a.first 0 (omega arith)) ∙ h in cc)

value_of : (p : Primitive) (vs : List Value) (at : ℕ) → Acts p at (map type_of vs) → length (outputs_of p vs) ≡ 1
value_of p vs at a = one_value p vs at a.output a.row a.taken

-- where further inputs are taken

pub bundle_is : (at : ℕ) (k : Value) (vs : List Value) → Acts op.Bundle at (map type_of (placed at k vs)) → at ≡ 0
bundle_is at k vs a = front op.Bundle at _ a refl

pub both_is : (p : Primitive) (at : ℕ) (k : Value) (vs : List Value) → takes_both p ≡ true → Acts p at (map type_of (placed at k vs)) → (at ≡ 0) × (length vs ≡ 1)
both_is op.Build at k vs h a = (front op.Build at _ a refl, others_long 1 at k vs (two_long _ _ _ (ap is_some a.row)))
both_is (op.Set i) at k vs h a = (front (op.Set i) at _ a refl, others_long 1 at k vs (two_long _ _ _ (ap is_some a.row)))
both_is _ at k vs h a = absurd cc

pub replace_is : (at : ℕ) (k : Value) (vs : List Value) → Acts op.Replace at (map type_of (placed at k vs)) → (at ≡ 0) × (length vs ≡ 2)
replace_is at k vs a = (front op.Replace at _ a refl, others_long 2 at k vs (three_long _ _ _ _ (ap is_some a.row)))

select_at : (at : ℕ) (ts : List Ty) → Acts op.Select at ts → at ≡ 1
select_at zero ts a = absurd (let e = a.taken in cc)
select_at (suc zero) ts a = refl
select_at (suc (suc zero)) ts a = absurd (let e = a.first 1 (omega arith) in cc)
select_at (suc (suc (suc at))) ts a = absurd (let e = a.taken in cc)

pub select_is : (at : ℕ) (k : Value) (vs : List Value) → Acts op.Select at (map type_of (placed at k vs)) → (at ≡ 1) × (length vs ≡ 2)
select_is at k vs a = (select_at at _ a, others_long 2 at k vs (three_long is_bool (λ s t. true) (λ s t f. selected t f) _ (ap is_some a.row)))

-- Select, Replace and the like for an operation that is known by an equation

pub replace_of : (p : Primitive) (at : ℕ) (k : Value) (vs : List Value) → p ≡ op.Replace → Acts p at (map type_of (placed at k vs)) → (at ≡ 0) × (length vs ≡ 2)
replace_of p at k vs is a = replace_is at k vs (subst (λ q. Acts q at (map type_of (placed at k vs))) is a)

pub select_of : (p : Primitive) (at : ℕ) (k : Value) (vs : List Value) → p ≡ op.Select → Acts p at (map type_of (placed at k vs)) → (at ≡ 1) × (length vs ≡ 2)
select_of p at k vs is a = select_is at k vs (subst (λ q. Acts q at (map type_of (placed at k vs))) is a)

pub takes_second_of_both : (p : Primitive) (ts : List Ty) → takes_both p ≡ true → takes p ts 1 ≡ true
takes_second_of_both op.Build ts h = refl
takes_second_of_both (op.Set i) ts h = refl
takes_second_of_both _ ts h = absurd cc

-- where all other inputs are read

pub reads_are : (p : Primitive) → p ≢ op.Select → p ≢ op.Replace → p ≢ op.Bundle → p ≢ op.Unbundle → p ≢ op.Build → ((i : ℕ) → p ≢ op.Set i) → reads_others p ≡ true
reads_are op.Select a b c d e f = absurd (a refl)
reads_are op.Replace a b c d e f = absurd (b refl)
reads_are op.Bundle a b c d e f = absurd (c refl)
reads_are op.Unbundle a b c d e f = absurd (d refl)
reads_are op.Build a b c d e f = absurd (e refl)
reads_are (op.Set i) a b c d e f = absurd (f i refl)
reads_are _ a b c d e f = refl

only_at : (p : Primitive) (k : Value) (at : ℕ) → reads_others p ≡ true → length (outputs_of p (k ∷ [])) ≡ 1 → takes p (type_of k ∷ []) at ≡ true → takes_only p ≡ true
only_at op.Inc k at r h t = refl
only_at op.Dec k at r h t = refl
only_at op.Neg k at r h t = refl
only_at op.Abs k at r h t = refl
only_at op.Not k at r h t = refl
only_at op.ToI8 k at r h t = refl
only_at op.ToI16 k at r h t = refl
only_at op.ToI32 k at r h t = refl
only_at op.ToI64 k at r h t = refl
only_at op.ToU8 k at r h t = refl
only_at op.ToU16 k at r h t = refl
only_at op.ToU32 k at r h t = refl
only_at op.ToU64 k at r h t = refl
only_at op.Reverse k at r h t = refl
only_at op.Sort k at r h t = refl
only_at op.StrBytes k at r h t = refl
only_at op.BytesStr k at r h t = refl
only_at _ k at r h t = absurd cc

pub only_is : (p : Primitive) (at : ℕ) (k : Value) → reads_others p ≡ true → Acts p at (map type_of (placed at k [])) → takes_only p ≡ true
only_is p zero k r a = only_at p k 0 r (value_of p (k ∷ []) 0 a) a.taken
only_is p (suc at) k r a = only_at p k (suc at) r (value_of p (k ∷ []) (suc at) a) a.taken

pub only_placed : (at : ℕ) (k : Value) → placed at k [] ≡ k ∷ []
only_placed zero k = refl
only_placed (suc at) k = refl

first_at : (p : Primitive) (k y : Value) → reads_others p ≡ true → length (outputs_of p (k ∷ y ∷ [])) ≡ 1 → takes p (type_of k ∷ type_of y ∷ []) 0 ≡ true → takes_first p ≡ true
first_at op.Add k y r h t = refl
first_at op.Sub k y r h t = refl
first_at op.Mul k y r h t = refl
first_at op.And k y r h t = refl
first_at op.Or k y r h t = refl
first_at op.Xor k y r h t = refl
first_at op.Concat k y r h t = refl
first_at op.StrConcat k y r h t = refl
first_at _ k y r h t = absurd cc

pub first_is : (p : Primitive) (at : ℕ) (k y : Value) → at ≡ 0 → reads_others p ≡ true → Acts p at (map type_of (placed at k (y ∷ []))) → takes_first p ≡ true
first_is p zero k y z r a = first_at p k y r (value_of p (k ∷ y ∷ []) 0 a) a.taken
first_is p (suc at) k y z r a = absurd (omega arith)

pub types_are : (p : Primitive) (at : ℕ) (k y : Value) → at ≡ 0 → Acts p at (map type_of (placed at k (y ∷ []))) → AreEqualTypes p k y
types_are p zero k y z a = equal_types p k y (ap is_some a.row)
types_are p (suc at) k y z a = absurd (omega arith)

second_at : (p : Primitive) (k y : Value) (at : ℕ) → reads_others p ≡ true → length (outputs_of p (y ∷ k ∷ [])) ≡ 1 → takes p (type_of y ∷ type_of k ∷ []) (suc at) ≡ true → takes p (type_of y ∷ type_of k ∷ []) 0 ≡ false → takes_second p ≡ true
second_at op.Add k y at r h t n = refl
second_at op.Sub k y at r h t n = refl
second_at op.Mul k y at r h t n = refl
second_at op.And k y at r h t n = refl
second_at op.Or k y at r h t n = refl
second_at op.Xor k y at r h t n = refl
second_at _ k y at r h t n = absurd cc

pub second_is : (p : Primitive) (at : ℕ) (k y : Value) → at ≢ 0 → reads_others p ≡ true → Acts p at (map type_of (placed at k (y ∷ []))) → takes_second p ≡ true
second_is p zero k y z r a = absurd (z refl)
second_is p (suc zero) k y z r a = second_at p k y 0 r (value_of p (y ∷ k ∷ []) 1 a) a.taken (a.first 0 (omega arith))
second_is p (suc (suc at)) k y z r a = second_at p k y (suc at) r (value_of p (y ∷ k ∷ []) (suc (suc at)) a) a.taken (a.first 0 (omega arith))

pub second_placed : (at : ℕ) (k y : Value) → at ≢ 0 → placed at k (y ∷ []) ≡ y ∷ k ∷ []
second_placed zero k y z = absurd (z refl)
second_placed (suc zero) k y z = refl
second_placed (suc (suc at)) k y z = refl

of_three : (p : Primitive) (x y z : Value) (at : ℕ) → reads_others p ≡ true → length (outputs_of p (x ∷ y ∷ z ∷ [])) ≡ 1 → takes p (type_of x ∷ type_of y ∷ type_of z ∷ []) at ≡ true → takes_first_of_three p ≡ true
of_three op.Subset x y z at r h t = refl
of_three op.StrSubset x y z at r h t = refl
of_three _ x y z at r h t = absurd cc

front_of_three : (p : Primitive) (ts : List Ty) → takes_first_of_three p ≡ true → takes p ts 0 ≡ true
front_of_three op.Subset ts h = refl
front_of_three op.StrSubset ts h = refl
front_of_three _ ts h = absurd cc

pub three_is : (p : Primitive) (at : ℕ) (k x y : Value) → reads_others p ≡ true → Acts p at (map type_of (placed at k (x ∷ y ∷ []))) → (at ≡ 0) × (takes_first_of_three p ≡ true)
three_is p zero k x y r a = (refl, of_three p k x y 0 r (value_of p (k ∷ x ∷ y ∷ []) 0 a) a.taken)
three_is p (suc zero) k x y r a =
    let t = of_three p x k y 1 r (value_of p (x ∷ k ∷ y ∷ []) 1 a) a.taken in
    (front p 1 _ a (front_of_three p _ t), t)
three_is p (suc (suc zero)) k x y r a =
    let t = of_three p x y k 2 r (value_of p (x ∷ y ∷ k ∷ []) 2 a) a.taken in
    (front p 2 _ a (front_of_three p _ t), t)
three_is p (suc (suc (suc at))) k x y r a =
    let t = of_three p x y k (suc (suc (suc at))) r (value_of p (x ∷ y ∷ k ∷ []) (suc (suc (suc at))) a) a.taken in
    (front p (suc (suc (suc at))) _ a (front_of_three p _ t), t)

no_values : (p : Primitive) (x y z w : Value) (vs : List Value) → reads_others p ≡ true → length (outputs_of p (x ∷ y ∷ z ∷ w ∷ vs)) ≡ 1 → true ≡ false
no_values op.Bundle x y z w vs r h = absurd cc
no_values _ x y z w vs r h = absurd cc

too_many : (p : Primitive) (vs : List Value) → reads_others p ≡ true → 4 ≤ length vs → length (outputs_of p vs) ≡ 1 → true ≡ false
too_many p [] r n h = absurd (omega arith)
too_many p (x ∷ []) r n h = absurd (omega arith)
too_many p (x ∷ y ∷ []) r n h = absurd (omega arith)
too_many p (x ∷ y ∷ z ∷ []) r n h = absurd (omega arith)
too_many p (x ∷ y ∷ z ∷ w ∷ vs) r n h = no_values p x y z w vs r h

pub few_are : (p : Primitive) (at : ℕ) (k : Value) (vs : List Value) → reads_others p ≡ true → Acts p at (map type_of (placed at k vs)) → 3 ≤ length vs → true ≡ false
few_are p at k vs r a n = let e = placed_long at k vs in too_many p (placed at k vs) r (omega arith) (value_of p (placed at k vs) at a)

-- what is read stays where another input is taken out

get_other : {A : Type 0} (xs : List A) (j k : ℕ) (v : A) → j ≢ k → slice_get (set xs j v) k ≡ slice_get xs k
get_other [] j k v n = refl
get_other (x ∷ xs) zero zero v n = absurd (n refl)
get_other (x ∷ xs) zero (suc k) v n = refl
get_other (x ∷ xs) (suc j) zero v n = refl
get_other (x ∷ xs) (suc j) (suc k) v n = get_other xs j k v (λ e. n (ap suc e))

pub taken_out : (p : Primitive) (at : ℕ) (ts : List Ty) (old : List Value) (j : ℕ) (v : Value) → takes p ts (input at j) ≡ true → ReadsStay p at ts old (set old j v)
taken_out p at ts old j v t k r = get_other old j k v (λ e. absurd (let f = sym t ∙ ap (λ i. takes p ts (input at i)) e ∙ r in cc))

-- what is given is proper

pub proper-placed : (at : ℕ) (k : Value) (vs : List Value) → IsProper k → All IsProper vs → All IsProper (placed at k vs)
proper-placed at k vs p all =
    All-append IsProper (take at vs) (k ∷ drop at vs) (All-take IsProper at vs all) (All-cons IsProper k (drop at vs) p (All-drop IsProper at vs all))

pub proper-value : (p : Primitive) (at : ℕ) (vs : List Value) (v : Value) → All IsProper vs → Acts p at (map type_of vs) → outputs_of p vs ≡ v ∷ [] → IsProper v
proper-value p at vs v all a is = All-head IsProper v [] (All-same IsProper (v ∷ []) (outputs_of p vs) (sym is) (proper-outputs p vs all (ap is_some a.row)))
