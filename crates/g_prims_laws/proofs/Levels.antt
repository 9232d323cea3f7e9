-- The type of a value, by its outermost level.
use Rattle.std.proofs.Common.{◌≡◌, true, false, map, Option, None, Some, refl, ap, sym, ◌∙◌, subst}
use Rattle.g_types.specs.declared.ty.Ty.{Ty, out-Ty}
use Rattle.g_types.specs.declared.ty.Ty.TheOpen.{Ty-F}
use Rattle.g_types.specs.declared.ty.Ty.TheVariants as ty
use Rattle.g_types.specs.declared.ty.Ty.TheViews.{roll-Ty, roll-out-Ty}
use Rattle.g_types.specs.Ty.{is_num_at}
use Rattle.g_values.specs.Value.{type_of}
use Rattle.g_values.specs.declared.value.Value.{Value, out-Value}
use Rattle.g_values.specs.declared.value.Value.TheVariants as value
use Rattle.g_values.specs.declared.value.Value.TheOpen.{Value-F}
use Rattle.g_values.specs.declared.value.Value.TheViews.{roll-Value, roll-out-Value}
use Rattle.g_values.proofs.TypesOf.{type-Num, type-Bool, type-Str, type-Nums, type-Arr, type-Cluster, type-Queue, type-Cell}
use Rattle.g_prims_definitions.specs.Kinds.{is_bool_at, wide_at, array_of}

-- the type of a level
abbrev pub type_at : Value-F Value → Ty
type_at (Value-F.Num x) = ty.Num x.rep
type_at (Value-F.Bool b) = ty.Bool
type_at (Value-F.Str s) = ty.Str
type_at (Value-F.Nums xs) = ty.Arr (ty.Num xs.rep)
type_at (Value-F.Arr xs) = ty.Arr xs.elem
type_at (Value-F.Cluster vs) = ty.Cluster (map type_of vs)
type_at (Value-F.Queue r) = ty.QueueRef r.elem
type_at (Value-F.Cell r) = ty.ValueRef r.elem

-- its outermost level
abbrev pub level_at : Value-F Value → Ty-F Ty
level_at (Value-F.Num x) = Ty-F.Num x.rep
level_at (Value-F.Bool b) = Ty-F.Bool
level_at (Value-F.Str s) = Ty-F.Str
level_at (Value-F.Nums xs) = Ty-F.Arr (ty.Num xs.rep)
level_at (Value-F.Arr xs) = Ty-F.Arr xs.elem
level_at (Value-F.Cluster vs) = Ty-F.Cluster (map type_of vs)
level_at (Value-F.Queue r) = Ty-F.QueueRef r.elem
level_at (Value-F.Cell r) = Ty-F.ValueRef r.elem

type_rolled : (l : Value-F Value) → type_of (roll-Value l) ≡ type_at l
type_rolled (Value-F.Num x) = ap type_of (value.rolls-Num x) ∙ type-Num x
type_rolled (Value-F.Bool x) = ap type_of (value.rolls-Bool x) ∙ type-Bool x
type_rolled (Value-F.Str x) = ap type_of (value.rolls-Str x) ∙ type-Str x
type_rolled (Value-F.Nums x) = ap type_of (value.rolls-Nums x) ∙ type-Nums x
type_rolled (Value-F.Arr x) = ap type_of (value.rolls-Arr x) ∙ type-Arr x
type_rolled (Value-F.Cluster x) = ap type_of (value.rolls-Cluster x) ∙ type-Cluster x
type_rolled (Value-F.Queue x) = ap type_of (value.rolls-Queue x) ∙ type-Queue x
type_rolled (Value-F.Cell x) = ap type_of (value.rolls-Cell x) ∙ type-Cell x

pub level_of : (l : Value-F Value) → out-Ty (type_at l) ≡ level_at l
level_of (Value-F.Num x) = ty.outs-Num x.rep
level_of (Value-F.Bool x) = ty.outs-Bool
level_of (Value-F.Str x) = ty.outs-Str
level_of (Value-F.Nums x) = ty.outs-Arr (ty.Num x.rep)
level_of (Value-F.Arr x) = ty.outs-Arr x.elem
level_of (Value-F.Cluster x) = ty.outs-Cluster (map type_of x)
level_of (Value-F.Queue x) = ty.outs-QueueRef x.elem
level_of (Value-F.Cell x) = ty.outs-ValueRef x.elem

pub type_is : (v : Value) → type_of v ≡ type_at (out-Value v)
type_is v = ap type_of (sym (roll-out-Value v)) ∙ type_rolled (out-Value v)

pub level_is : (v : Value) → out-Ty (type_of v) ≡ level_at (out-Value v)
level_is v = ap out-Ty (type_is v) ∙ level_of (out-Value v)

-- a fact of a type's outermost level, at that of the value
pub at_level : (P : Ty-F Ty → Type 0) (v : Value) → P (out-Ty (type_of v)) → P (level_at (out-Value v))
at_level P v h = subst P (level_is v) h

-- what is known

or_else : {A : Type 0} → A → Option A → A
or_else a None = a
or_else a (Some b) = b

pub known : {A : Type 0} (a b : A) → Some a ≡ Some b → a ≡ b
unfolding or_else
known a b e = ap (or_else a) e

pub array_known : (o : Option Ty) (t : Ty) → array_of o ≡ Some t → (u : Ty) × (o ≡ Some u) × (ty.Arr u ≡ t)
array_known None t e = absurd cc
array_known (Some u) t e = (u, refl, known (ty.Arr u) t e)

pub bool_type : (t : Ty) → is_bool_at (out-Ty t) ≡ true → t ≡ ty.Bool
bool_type t is = at t (out-Ty t) refl is
  where
    at : (t : Ty) (k : Ty-F Ty) → out-Ty t ≡ k → is_bool_at k ≡ true → t ≡ ty.Bool
    at t Ty-F.Bool e is = sym (roll-out-Ty t) ∙ ap roll-Ty e ∙ ty.rolls-Bool
    at t _ e is = absurd cc

-- where one of two isn't a number, both are Booleans

abbrev pub AreBools : (k m : Ty-F Ty) → Ty → Type 0
AreBools k m u = (is_bool_at k ≡ true) × (is_bool_at m ≡ true) × (ty.Bool ≡ u)

pub first_no_number : (k m : Ty-F Ty) (u : Ty) → is_num_at k ≡ false → wide_at k m ≡ Some u → AreBools k m u
first_no_number Ty-F.Bool Ty-F.Bool u n e = (refl, refl, known ty.Bool u e)
first_no_number (Ty-F.Num r) m u n e = absurd cc
first_no_number _ _ u n e = absurd cc

pub second_no_number : (k m : Ty-F Ty) (u : Ty) → is_num_at m ≡ false → wide_at k m ≡ Some u → AreBools k m u
second_no_number Ty-F.Bool Ty-F.Bool u n e = (refl, refl, known ty.Bool u e)
second_no_number k (Ty-F.Num r) u n e = absurd cc
second_no_number _ _ u n e = absurd cc
