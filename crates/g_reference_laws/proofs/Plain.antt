-- The default of a type holds no reference, and coercion keeps those of a value.
use Rattle.std.proofs.Common.{◌≡◌, List, [], ◌∷◌, ◌++◌, map, false, refl, ap, sym, ◌∙◌, subst}
use Rattle.std.specs.List.{flat_map}
use Rattle.g_types.specs.declared.ty.Ty.{Ty, out-Ty}
use Rattle.g_types.specs.declared.ty.Ty.TheFolds.{ind-Ty, map-Ty}
use Rattle.g_types.specs.declared.ty.Ty.TheOpen.{Ty-F}
use Rattle.g_types.specs.declared.ty.Ty.TheVariants as ty
use Rattle.g_types.specs.declared.ty.Ty.TheViews.{roll-Ty}
use Rattle.g_values.specs.Coerce.{coerced_at, coerced_items}
use Rattle.g_values.specs.Default.{default, empty_at}
use Rattle.g_values.specs.Numbers.{Numbers, empty}
use Rattle.g_values.specs.declared.value.Value.{Value, out-Value}
use Rattle.g_values.specs.declared.value.Value.TheOpen.{Value-F}
use Rattle.g_values.specs.declared.value.Value.TheVariants as value
use Rattle.g_values.specs.declared.value.Value.TheViews.{roll-Value, roll-out-Value}
use Rattle.g_values.proofs.Defaults.{default-Num, default-Bool, default-Str, default-Arr, default-QueueRef, default-ValueRef, default-Cluster}
use Rattle.g_reference_laws.specs.Laws.{CoercedHoldsTheSame, DefaultsHoldNone}
use Rattle.g_reference_laws.specs.References.{references_of}
use Rattle.g_reference_laws.proofs.Held.{references-Num, references-Bool, references-Str, references-Nums, references-Arr, references-Cluster, references-Queue, references-Cell}

abbrev IsPlain : Ty → Type 0
IsPlain t = references_of (default t) ≡ []

abbrev Plain : Type 0
Plain = (t : Ty) × IsPlain t

empty_array : (t : Ty) (k : Ty-F Ty) → references_of (empty_at t k) ≡ []
empty_array t (Ty-F.Num r) = references-Nums (empty r)
empty_array t _ = references-Arr (record { elem = t; items = [] })

each_plain : (ps : List Plain) → flat_map references_of (map default (map (λ (p : Plain). p.0) ps)) ≡ []
each_plain [] = refl
each_plain (p ∷ ps) = ap (λ l. l ++ flat_map references_of (map default (map (λ (q : Plain). q.0) ps))) p.1 ∙ each_plain ps

plain_level : (y : Ty-F Plain) → IsPlain (roll-Ty (map-Ty Plain Ty (λ p. p.0) y))
plain_level (Ty-F.Num r) = subst IsPlain (sym (ty.rolls-Num r)) (ap references_of (default-Num r) ∙ references-Num _)
plain_level Ty-F.Bool = subst IsPlain (sym ty.rolls-Bool) (ap references_of default-Bool ∙ references-Bool false)
plain_level Ty-F.Str = subst IsPlain (sym ty.rolls-Str) (ap references_of default-Str ∙ references-Str [])
plain_level (Ty-F.Arr p) = subst IsPlain (sym (ty.rolls-Arr p.0)) (ap references_of (default-Arr p.0) ∙ empty_array p.0 (out-Ty p.0))
plain_level (Ty-F.Cluster ps) =
    let ts = map (λ (p : Plain). p.0) ps in
    subst IsPlain (sym (ty.rolls-Cluster ts)) (ap references_of (default-Cluster ts) ∙ references-Cluster (map default ts) ∙ each_plain ps)
plain_level (Ty-F.QueueRef p) = subst IsPlain (sym (ty.rolls-QueueRef p.0)) (ap references_of (default-QueueRef p.0) ∙ references-Queue _)
plain_level (Ty-F.ValueRef p) = subst IsPlain (sym (ty.rolls-ValueRef p.0)) (ap references_of (default-ValueRef p.0) ∙ references-Cell _)

pub defaults_hold_none : DefaultsHoldNone
defaults_hold_none = ind-Ty IsPlain (λ x y is. subst (λ l. IsPlain (roll-Ty l)) is (plain_level y))

-- only numbers are changed, and they hold none

held_by : (v : Value) (l : Value-F Value) → out-Value v ≡ l → references_of v ≡ references_of (roll-Value l)
held_by v l e = ap references_of (sym (roll-out-Value v) ∙ ap roll-Value e)

coerced_array : (v : Value) (xs : Numbers) (k : Ty-F Ty) → references_of v ≡ [] → references_of (coerced_items xs k) ≡ references_of v
coerced_array v xs (Ty-F.Num r) e = references-Nums _ ∙ sym e
coerced_array v xs _ e = references-Nums xs ∙ sym e

coerced_level : (v : Value) (l : Value-F Value) (k : Ty-F Ty) → out-Value v ≡ l → references_of (coerced_at v l k) ≡ references_of v
coerced_level v (Value-F.Num x) (Ty-F.Num r) e = references-Num _ ∙ sym (references-Num x) ∙ ap references_of (sym (value.rolls-Num x)) ∙ sym (held_by v (Value-F.Num x) e)
coerced_level v (Value-F.Nums xs) (Ty-F.Arr t) e =
    coerced_array v xs (out-Ty t) (held_by v (Value-F.Nums xs) e ∙ ap references_of (value.rolls-Nums xs) ∙ references-Nums xs)
coerced_level v _ _ e = refl

pub coerced_holds_the_same : CoercedHoldsTheSame
coerced_holds_the_same v t = coerced_level v (out-Value v) (out-Ty t) refl
