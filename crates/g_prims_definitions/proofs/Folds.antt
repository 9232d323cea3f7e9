-- Equality of types and of values, references in types, by the variants.
use Rattle.std.proofs.Common.{◌≡◌, Bool, true, false, ℕ, List, map, ap, sym, ◌∙◌}
use Rattle.std.specs.List.{list_any}
use Rattle.g_types.specs.declared.rep.Rep.{Rep}
use Rattle.g_types.specs.declared.ty.Ty.{Ty, out-Ty}
use Rattle.g_types.specs.declared.ty.Ty.TheVariants as ty
use Rattle.g_types.specs.declared.ty.Ty.TheOpen.{Ty-F}
use Rattle.g_types.specs.declared.ty.Ty.TheFolds.{fold-roll-Ty}
use Rattle.g_types.specs.Same.{same_type, same_level as type_level, same_step as type_step}
use Rattle.g_values.specs.declared.num.Num.{Num}
use Rattle.g_values.specs.Numbers.{Numbers}
use Rattle.g_values.specs.declared.value.Value.{Value, out-Value}
use Rattle.g_values.specs.declared.value.Value.TheVariants as value
use Rattle.g_values.specs.declared.value.Value.TheOpen.{Value-F}
use Rattle.g_values.specs.declared.value.Value.TheFolds.{fold-roll-Value}
use Rattle.g_prims_definitions.specs.Comparisons.{same, same_level, same_step}
use Rattle.g_prims_definitions.specs.Kinds.{has_reference, reference_step}

at : {A B : Type 0} (f g : A → B) (a : A) → f ≡ g → f a ≡ g a
at f g a e = ap (λ h. h a) e

pub same-Num : (r : Rep) (u : Ty) → same_type (ty.Num r) u ≡ type_level (Ty-F.Num r) (out-Ty u)
same-Num r u = at (same_type (ty.Num r)) (type_step (Ty-F.Num r)) u (ap same_type (sym (ty.rolls-Num r)) ∙ fold-roll-Ty (Ty → Bool) type_step (Ty-F.Num r))

pub same-Bool : (u : Ty) → same_type ty.Bool u ≡ type_level Ty-F.Bool (out-Ty u)
same-Bool u = at (same_type ty.Bool) (type_step Ty-F.Bool) u (ap same_type (sym ty.rolls-Bool) ∙ fold-roll-Ty (Ty → Bool) type_step Ty-F.Bool)

pub same-Str : (u : Ty) → same_type ty.Str u ≡ type_level Ty-F.Str (out-Ty u)
same-Str u = at (same_type ty.Str) (type_step Ty-F.Str) u (ap same_type (sym ty.rolls-Str) ∙ fold-roll-Ty (Ty → Bool) type_step Ty-F.Str)

pub same-Arr : (t u : Ty) → same_type (ty.Arr t) u ≡ type_level (Ty-F.Arr (same_type t)) (out-Ty u)
same-Arr t u = at (same_type (ty.Arr t)) (type_step (Ty-F.Arr (same_type t))) u (ap same_type (sym (ty.rolls-Arr t)) ∙ fold-roll-Ty (Ty → Bool) type_step (Ty-F.Arr t))

pub same-QueueRef : (t u : Ty) → same_type (ty.QueueRef t) u ≡ type_level (Ty-F.QueueRef (same_type t)) (out-Ty u)
same-QueueRef t u = at (same_type (ty.QueueRef t)) (type_step (Ty-F.QueueRef (same_type t))) u (ap same_type (sym (ty.rolls-QueueRef t)) ∙ fold-roll-Ty (Ty → Bool) type_step (Ty-F.QueueRef t))

pub same-Cluster : (ts : List Ty) (u : Ty) → same_type (ty.Cluster ts) u ≡ type_level (Ty-F.Cluster (map same_type ts)) (out-Ty u)
same-Cluster ts u = at (same_type (ty.Cluster ts)) (type_step (Ty-F.Cluster (map same_type ts))) u (ap same_type (sym (ty.rolls-Cluster ts)) ∙ fold-roll-Ty (Ty → Bool) type_step (Ty-F.Cluster ts))

pub reference-Num : (r : Rep) → has_reference (ty.Num r) ≡ false
reference-Num r = ap has_reference (sym (ty.rolls-Num r)) ∙ fold-roll-Ty Bool reference_step (Ty-F.Num r)

pub reference-Bool : has_reference ty.Bool ≡ false
reference-Bool = ap has_reference (sym ty.rolls-Bool) ∙ fold-roll-Ty Bool reference_step Ty-F.Bool

pub reference-Str : has_reference ty.Str ≡ false
reference-Str = ap has_reference (sym ty.rolls-Str) ∙ fold-roll-Ty Bool reference_step Ty-F.Str

pub reference-Arr : (t : Ty) → has_reference (ty.Arr t) ≡ has_reference t
reference-Arr t = ap has_reference (sym (ty.rolls-Arr t)) ∙ fold-roll-Ty Bool reference_step (Ty-F.Arr t)

pub reference-QueueRef : (t : Ty) → has_reference (ty.QueueRef t) ≡ true
reference-QueueRef t = ap has_reference (sym (ty.rolls-QueueRef t)) ∙ fold-roll-Ty Bool reference_step (Ty-F.QueueRef t)

pub reference-Cluster : (ts : List Ty) → has_reference (ty.Cluster ts) ≡ list_any (λ b. b) (map has_reference ts)
reference-Cluster ts = ap has_reference (sym (ty.rolls-Cluster ts)) ∙ fold-roll-Ty Bool reference_step (Ty-F.Cluster ts)

pub equal-Num : (x : Num) (w : Value) → same (value.Num x) w ≡ same_level (Value-F.Num x) (out-Value w)
equal-Num x w = at (same (value.Num x)) (same_step (Value-F.Num x)) w (ap same (sym (value.rolls-Num x)) ∙ fold-roll-Value (Value → Bool) same_step (Value-F.Num x))

pub equal-Str : (s : List ℕ) (w : Value) → same (value.Str s) w ≡ same_level (Value-F.Str s) (out-Value w)
equal-Str s w = at (same (value.Str s)) (same_step (Value-F.Str s)) w (ap same (sym (value.rolls-Str s)) ∙ fold-roll-Value (Value → Bool) same_step (Value-F.Str s))

pub equal-Nums : (xs : Numbers) (w : Value) → same (value.Nums xs) w ≡ same_level (Value-F.Nums xs) (out-Value w)
equal-Nums xs w = at (same (value.Nums xs)) (same_step (Value-F.Nums xs)) w (ap same (sym (value.rolls-Nums xs)) ∙ fold-roll-Value (Value → Bool) same_step (Value-F.Nums xs))

pub equal-Cluster : (vs : List Value) (w : Value) → same (value.Cluster vs) w ≡ same_level (Value-F.Cluster (map same vs)) (out-Value w)
equal-Cluster vs w = at (same (value.Cluster vs)) (same_step (Value-F.Cluster (map same vs))) w (ap same (sym (value.rolls-Cluster vs)) ∙ fold-roll-Value (Value → Bool) same_step (Value-F.Cluster vs))

pub ruleset folds = (same-Num, same-Bool, same-Str, same-Arr, same-QueueRef, same-Cluster, reference-Num, reference-Bool, reference-Str, reference-Arr, reference-QueueRef, reference-Cluster, equal-Num, equal-Str, equal-Nums, equal-Cluster)
