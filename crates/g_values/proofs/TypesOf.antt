-- The type of a value, by the value's variants.
use Rattle.std.proofs.Common.{◌≡◌, ℕ, Bool, List, map, ap, sym, ◌∙◌}
use Rattle.g_types.specs.declared.ty.Ty.{Ty}
use Rattle.g_types.specs.declared.ty.Ty.TheVariants as ty
use Rattle.g_values.specs.declared.num.Num.{Num}
use Rattle.g_values.specs.declared.value.ArrOf.{ArrOf}
use Rattle.g_values.specs.declared.value.RefValue.{RefValue}
use Rattle.g_values.specs.declared.value.Value.{Value}
use Rattle.g_values.specs.declared.value.Value.TheVariants as value
use Rattle.g_values.specs.declared.value.Value.TheOpen.{Value-F}
use Rattle.g_values.specs.declared.value.Value.TheFolds.{fold-roll-Value}
use Rattle.g_values.specs.Numbers.{Numbers}
use Rattle.g_values.specs.Value.{type_of, type_step}

pub type-Num : (x : Num) → type_of (value.Num x) ≡ ty.Num x.rep
type-Num x = ap type_of (sym (value.rolls-Num x)) ∙ fold-roll-Value Ty type_step (Value-F.Num x)

pub type-Bool : (b : Bool) → type_of (value.Bool b) ≡ ty.Bool
type-Bool b = ap type_of (sym (value.rolls-Bool b)) ∙ fold-roll-Value Ty type_step (Value-F.Bool b)

pub type-Str : (s : List ℕ) → type_of (value.Str s) ≡ ty.Str
type-Str s = ap type_of (sym (value.rolls-Str s)) ∙ fold-roll-Value Ty type_step (Value-F.Str s)

pub type-Nums : (xs : Numbers) → type_of (value.Nums xs) ≡ ty.Arr (ty.Num xs.rep)
type-Nums xs = ap type_of (sym (value.rolls-Nums xs)) ∙ fold-roll-Value Ty type_step (Value-F.Nums xs)

pub type-Arr : (xs : ArrOf Value) → type_of (value.Arr xs) ≡ ty.Arr xs.elem
type-Arr xs = ap type_of (sym (value.rolls-Arr xs)) ∙ fold-roll-Value Ty type_step (Value-F.Arr xs)

pub type-Cluster : (vs : List Value) → type_of (value.Cluster vs) ≡ ty.Cluster (map type_of vs)
type-Cluster vs = ap type_of (sym (value.rolls-Cluster vs)) ∙ fold-roll-Value Ty type_step (Value-F.Cluster vs)

pub type-Queue : (r : RefValue) → type_of (value.Queue r) ≡ ty.QueueRef r.elem
type-Queue r = ap type_of (sym (value.rolls-Queue r)) ∙ fold-roll-Value Ty type_step (Value-F.Queue r)

pub type-Cell : (r : RefValue) → type_of (value.Cell r) ≡ ty.ValueRef r.elem
type-Cell r = ap type_of (sym (value.rolls-Cell r)) ∙ fold-roll-Value Ty type_step (Value-F.Cell r)

pub ruleset types = (type-Num, type-Bool, type-Str, type-Nums, type-Arr, type-Cluster, type-Queue, type-Cell)
