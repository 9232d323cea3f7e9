-- A coerced proper value is a proper value of the type that is wanted.
use Rattle.std.proofs.Common.{◌≡◌, ◌≤◌, ◌⊎◌, inl, inr, Bool, true, false, ◌&&◌, ◌||◌, length, refl, ap, sym, ◌∙◌, subst}
use Rattle.std.proofs.lemmas.List.{length-map}
use Rattle.g_types.specs.declared.rep.Rep.{Rep}
use Rattle.g_types.specs.declared.ty.Ty.{Ty, out-Ty}
use Rattle.g_types.specs.declared.ty.Ty.TheVariants as ty
use Rattle.g_types.specs.declared.ty.Ty.TheViews.{roll-Ty, roll-out-Ty}
use Rattle.g_types.specs.declared.ty.Ty.TheOpen.{Ty-F}
use Rattle.g_types.specs.Rep.{wrap}
use Rattle.g_types.specs.Ty.{is_num, is_num_at, is_nums, is_nums_at, IsAssignable}
use Rattle.g_values.specs.declared.num.Num.{Num}
use Rattle.g_values.specs.declared.value.Value.{Value, out-Value}
use Rattle.g_values.specs.declared.value.Value.TheVariants as value
use Rattle.g_values.specs.declared.value.Value.TheOpen.{Value-F}
use Rattle.g_values.specs.declared.value.Value.TheViews.{roll-Value, roll-out-Value}
use Rattle.g_values.specs.declared.value.Value.TheFolds.{fold_out-Value, every_here-Value, map-Value}
use Rattle.g_values.specs.Number.{num_of}
use Rattle.g_values.specs.Numbers.{Numbers}
use Rattle.g_values.specs.Value.{type_of, type_step}
use Rattle.g_values.specs.Coerce.{coerced, coerced_numbers, coerced_at}
use Rattle.g_values.specs.Proper.{IsProper, IsLayer}
use Rattle.g_values.specs.Typed.{IsOfType}
use Rattle.g_values.proofs.TypesOf.{type-Num, type-Nums}
use Rattle.g_values.proofs.ProperLemmas.{proper_num, proper_nums, few_numbers}

-- what a coerced value is
pub coerced-Num : (x : Num) (r : Rep) → coerced (value.Num x) (ty.Num r) ≡ value.Num (num_of r x.n)
coerced-Num x r = rw (value.outs-Num x, ty.outs-Num r) refl

pub coerced-Nums : (xs : Numbers) (r : Rep) → coerced (value.Nums xs) (ty.Arr (ty.Num r)) ≡ value.Nums (coerced_numbers r xs)
coerced-Nums xs r = rw (value.outs-Nums xs, ty.outs-Arr (ty.Num r), ty.outs-Num r) refl

coerced_number : (x : Num) (r : Rep) → IsOfType (ty.Num r) (coerced (value.Num x) (ty.Num r))
coerced_number x r = subst (IsOfType (ty.Num r)) (sym (coerced-Num x r)) (record { proper = proper_num (num_of r x.n); of_type = type-Num (num_of r x.n) })

coerced_array : (xs : Numbers) (r : Rep) → IsProper (value.Nums xs) → IsOfType (ty.Arr (ty.Num r)) (coerced (value.Nums xs) (ty.Arr (ty.Num r)))
coerced_array xs r p =
    let few : length (coerced_numbers r xs).all ≤ 4194304 = subst (λ n. n ≤ 4194304) (sym (length-map xs.all (wrap r))) (few_numbers xs p) in
    subst (IsOfType (ty.Arr (ty.Num r))) (sym (coerced-Nums xs r)) (record { proper = proper_nums (coerced_numbers r xs) few; of_type = type-Nums (coerced_numbers r xs) })

-- types of numbers, and of arrays of numbers
num_type_at : (t : Ty) (k : Ty-F Ty) → out-Ty t ≡ k → is_num_at k ≡ true → (r : Rep) × (t ≡ ty.Num r)
num_type_at t (Ty-F.Num r) e is = (r, sym (roll-out-Ty t) ∙ ap roll-Ty e ∙ ty.rolls-Num r)
num_type_at t Ty-F.Bool e is = absurd cc
num_type_at t Ty-F.Str e is = absurd cc
num_type_at t (Ty-F.Arr x) e is = absurd cc
num_type_at t (Ty-F.Cluster x) e is = absurd cc
num_type_at t (Ty-F.QueueRef x) e is = absurd cc
num_type_at t (Ty-F.ValueRef x) e is = absurd cc

num_type : (t : Ty) → is_num t ≡ true → (r : Rep) × (t ≡ ty.Num r)
num_type t is = num_type_at t (out-Ty t) refl is

nums_type_at : (t : Ty) (k : Ty-F Ty) → out-Ty t ≡ k → is_nums_at k ≡ true → (r : Rep) × (t ≡ ty.Arr (ty.Num r))
nums_type_at t (Ty-F.Arr x) e is =
    let item = num_type x is in
    (item.0, sym (roll-out-Ty t) ∙ ap roll-Ty e ∙ ty.rolls-Arr x ∙ ap ty.Arr item.1)
nums_type_at t Ty-F.Bool e is = absurd cc
nums_type_at t Ty-F.Str e is = absurd cc
nums_type_at t (Ty-F.Num x) e is = absurd cc
nums_type_at t (Ty-F.Cluster x) e is = absurd cc
nums_type_at t (Ty-F.QueueRef x) e is = absurd cc
nums_type_at t (Ty-F.ValueRef x) e is = absurd cc

nums_type : (t : Ty) → is_nums t ≡ true → (r : Rep) × (t ≡ ty.Arr (ty.Num r))
nums_type t is = nums_type_at t (out-Ty t) refl is

-- the outermost level of a value's type
abbrev out_type : Value-F Ty → Ty-F Ty
out_type (Value-F.Num x) = Ty-F.Num x.rep
out_type (Value-F.Bool b) = Ty-F.Bool
out_type (Value-F.Str s) = Ty-F.Str
out_type (Value-F.Nums xs) = Ty-F.Arr (ty.Num xs.rep)
out_type (Value-F.Arr xs) = Ty-F.Arr xs.elem
out_type (Value-F.Cluster ts) = Ty-F.Cluster ts
out_type (Value-F.Queue r) = Ty-F.QueueRef r.elem
out_type (Value-F.Cell r) = Ty-F.ValueRef r.elem

outs_type : (l : Value-F Ty) → out-Ty (type_step l) ≡ out_type l
outs_type (Value-F.Num x) = ty.outs-Num x.rep
outs_type (Value-F.Bool b) = ty.outs-Bool
outs_type (Value-F.Str s) = ty.outs-Str
outs_type (Value-F.Nums xs) = ty.outs-Arr (ty.Num xs.rep)
outs_type (Value-F.Arr xs) = ty.outs-Arr xs.elem
outs_type (Value-F.Cluster ts) = ty.outs-Cluster ts
outs_type (Value-F.Queue r) = ty.outs-QueueRef r.elem
outs_type (Value-F.Cell r) = ty.outs-ValueRef r.elem

outs_type_of : (v : Value) → out-Ty (type_of v) ≡ out_type (map-Value Value Ty type_of (out-Value v))
outs_type_of v = ap out-Ty (fold_out-Value Ty type_step v) ∙ outs_type (map-Value Value Ty type_of (out-Value v))

num_value_at : (v : Value) (l : Value-F Value) → out-Value v ≡ l → is_num_at (out_type (map-Value Value Ty type_of l)) ≡ true → (x : Num) × (v ≡ value.Num x)
num_value_at v (Value-F.Num x) e is = (x, sym (roll-out-Value v) ∙ ap roll-Value e ∙ value.rolls-Num x)
num_value_at v (Value-F.Bool x) e is = absurd cc
num_value_at v (Value-F.Str x) e is = absurd cc
num_value_at v (Value-F.Nums x) e is = absurd cc
num_value_at v (Value-F.Arr x) e is = absurd cc
num_value_at v (Value-F.Cluster x) e is = absurd cc
num_value_at v (Value-F.Queue x) e is = absurd cc
num_value_at v (Value-F.Cell x) e is = absurd cc

num_value : (v : Value) → is_num (type_of v) ≡ true → (x : Num) × (v ≡ value.Num x)
num_value v is = num_value_at v (out-Value v) refl (sym (ap is_num_at (outs_type_of v)) ∙ is)

nums_value_at : (v : Value) (l : Value-F Value) → out-Value v ≡ l → IsLayer l → is_nums_at (out_type (map-Value Value Ty type_of l)) ≡ true → (xs : Numbers) × (v ≡ value.Nums xs)
nums_value_at v (Value-F.Nums xs) e right is = (xs, sym (roll-out-Value v) ∙ ap roll-Value e ∙ value.rolls-Nums xs)
nums_value_at v (Value-F.Arr xs) e right is = let no = right.no_number in absurd cc
nums_value_at v (Value-F.Num x) e right is = absurd cc
nums_value_at v (Value-F.Bool x) e right is = absurd cc
nums_value_at v (Value-F.Str x) e right is = absurd cc
nums_value_at v (Value-F.Cluster x) e right is = absurd cc
nums_value_at v (Value-F.Queue x) e right is = absurd cc
nums_value_at v (Value-F.Cell x) e right is = absurd cc

nums_value : (v : Value) → IsProper v → is_nums (type_of v) ≡ true → (xs : Numbers) × (v ≡ value.Nums xs)
nums_value v p is = nums_value_at v (out-Value v) refl (every_here-Value IsLayer v p.whole) (sym (ap is_nums_at (outs_type_of v)) ∙ is)

-- from the types alone, by the two ways in which a number changes
as_number : (v : Value) (t : Ty) (x : Num) (r : Rep) → v ≡ value.Num x → t ≡ ty.Num r → IsOfType t (coerced v t)
as_number v t x r ev et = subst (λ u. IsOfType t (coerced u t)) (sym ev) (subst (λ s. IsOfType s (coerced (value.Num x) s)) (sym et) (coerced_number x r))

as_array : (v : Value) (t : Ty) (xs : Numbers) (r : Rep) → IsProper v → v ≡ value.Nums xs → t ≡ ty.Arr (ty.Num r) → IsOfType t (coerced v t)
as_array v t xs r p ev et = subst (λ u. IsOfType t (coerced u t)) (sym ev) (subst (λ s. IsOfType s (coerced (value.Nums xs) s)) (sym et) (coerced_array xs r (subst IsProper ev p)))

-- a value that isn't numbers stays
kept : (v : Value) (t : Ty) → IsProper v → type_of v ≡ t → coerced v t ≡ v → IsOfType t (coerced v t)
kept v t p e same = subst (IsOfType t) (sym same) (record { proper = p; of_type = e })

same_type_at : (v : Value) (t : Ty) (l : Value-F Value) → out-Value v ≡ l → IsProper v → type_of v ≡ t → IsOfType t (coerced v t)
same_type_at v t (Value-F.Num x) is p e =
    let ev : v ≡ value.Num x = sym (roll-out-Value v) ∙ ap roll-Value is ∙ value.rolls-Num x in
    as_number v t x x.rep ev (sym e ∙ ap type_of ev ∙ type-Num x)
same_type_at v t (Value-F.Nums xs) is p e =
    let ev : v ≡ value.Nums xs = sym (roll-out-Value v) ∙ ap roll-Value is ∙ value.rolls-Nums xs in
    as_array v t xs xs.rep p ev (sym e ∙ ap type_of ev ∙ type-Nums xs)
same_type_at v t (Value-F.Bool x) is p e = kept v t p e (ap (λ l. coerced_at v l (out-Ty t)) is)
same_type_at v t (Value-F.Str x) is p e = kept v t p e (ap (λ l. coerced_at v l (out-Ty t)) is)
same_type_at v t (Value-F.Arr x) is p e = kept v t p e (ap (λ l. coerced_at v l (out-Ty t)) is)
same_type_at v t (Value-F.Cluster x) is p e = kept v t p e (ap (λ l. coerced_at v l (out-Ty t)) is)
same_type_at v t (Value-F.Queue x) is p e = kept v t p e (ap (λ l. coerced_at v l (out-Ty t)) is)
same_type_at v t (Value-F.Cell x) is p e = kept v t p e (ap (λ l. coerced_at v l (out-Ty t)) is)

either : (x y : Bool) → (x || y) ≡ true → (x ≡ true) ⊎ (y ≡ true)
either true y e = inl refl
either false y e = inr e

both : (x y : Bool) → (x && y) ≡ true → (x ≡ true) × (y ≡ true)
both true y e = (refl, e)
both false y e = absurd cc

by_numbers : (v : Value) (t : Ty) → IsProper v → ((is_num (type_of v) && is_num t) ≡ true) ⊎ ((is_nums (type_of v) && is_nums t) ≡ true) → IsOfType t (coerced v t)
by_numbers v t p (inl e) =
    let parts = both (is_num (type_of v)) (is_num t) e in
    let x = num_value v parts.0 in
    let r = num_type t parts.1 in
    as_number v t x.0 r.0 x.1 r.1
by_numbers v t p (inr e) =
    let parts = both (is_nums (type_of v)) (is_nums t) e in
    let xs = nums_value v p parts.0 in
    let r = nums_type t parts.1 in
    as_array v t xs.0 r.0 p xs.1 r.1

pub coerced-of_type : (v : Value) (t : Ty) → IsProper v → IsAssignable (type_of v) t → IsOfType t (coerced v t)
coerced-of_type v t p (inl e) = same_type_at v t (out-Value v) refl p e
coerced-of_type v t p (inr e) = by_numbers v t p (either (is_num (type_of v) && is_num t) (is_nums (type_of v) && is_nums t) e)
