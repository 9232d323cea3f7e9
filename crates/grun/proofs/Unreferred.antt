-- A value in which each reference is null holds no reference.
use Rattle.std.proofs.Common.{◌≡◌, true, List, [], ◌∷◌, ◌++◌, map, Option, Some, None, is_none, refl, sym, ap, ◌∙◌, subst}
use Rattle.std.specs.List.{flat_map, list_all}
use Rattle.std.proofs.lemmas.Bool.{and_parts}
use Rattle.g_types.specs.declared.ty.Ty.{Ty}
use Rattle.g_types.specs.declared.ty.Ty.TheVariants as ty
use Rattle.g_values.specs.declared.value.ArrOf.{ArrOf}
use Rattle.g_values.specs.declared.value.Live.{Live}
use Rattle.g_values.specs.declared.value.Value.{Value}
use Rattle.g_values.specs.declared.value.Value.TheVariants as value
use Rattle.g_values.specs.declared.value.Value.TheFolds.{ind-Value, map-Value}
use Rattle.g_values.specs.declared.value.Value.TheOpen.{Value-F}
use Rattle.g_values.specs.declared.value.Value.TheViews.{roll-Value}
use Rattle.g_reference_laws.specs.References.{reference, references_of}
use Rattle.g_reference_laws.proofs.Held.{references-Num, references-Bool, references-Str, references-Nums, references-Arr, references-Cluster, references-Queue, references-Cell}
use Rattle.g_valtext.specs.Plain.{refers_to_none}
use Rattle.g_valtext.proofs.Ranged.{null-Arr, null-Cluster, null-Queue, null-Cell}

abbrev HoldsNone : Value → Type 0
HoldsNone v = refers_to_none v ≡ true → references_of v ≡ []

abbrev Told : Type 0
Told = (v : Value) × HoldsNone v

each_none : (ps : List Told) → list_all refers_to_none (map (λ p. p.0) ps) ≡ true → flat_map references_of (map (λ p. p.0) ps) ≡ []
each_none [] e = refl
each_none (p ∷ ps) e =
    let parts = and_parts (refers_to_none p.0) (list_all refers_to_none (map (λ p. p.0) ps)) e in
    ap (λ l. l ++ flat_map references_of (map (λ (q : Told). q.0) ps)) (p.1 parts.0) ∙ each_none ps parts.1

null_none : (t : Ty) (at : Option Live) → is_none at ≡ true → reference t at ≡ []
null_none t None e = refl
null_none t (Some l) e = absurd cc

level : (y : Value-F Told) → HoldsNone (roll-Value (map-Value Told Value (λ p. p.0) y))
level (Value-F.Num x) = subst HoldsNone (sym (value.rolls-Num x)) (λ e. references-Num x)
level (Value-F.Bool b) = subst HoldsNone (sym (value.rolls-Bool b)) (λ e. references-Bool b)
level (Value-F.Str s) = subst HoldsNone (sym (value.rolls-Str s)) (λ e. references-Str s)
level (Value-F.Nums xs) = subst HoldsNone (sym (value.rolls-Nums xs)) (λ e. references-Nums xs)
level (Value-F.Arr xs) =
    let all : ArrOf Value = record { elem = xs.elem; items = map (λ p. p.0) xs.items } in
    subst HoldsNone (sym (value.rolls-Arr all)) (λ e. references-Arr all ∙ each_none xs.items (sym (null-Arr all) ∙ e))
level (Value-F.Cluster ps) =
    let all = map (λ (p : Told). p.0) ps in
    subst HoldsNone (sym (value.rolls-Cluster all)) (λ e. references-Cluster all ∙ each_none ps (sym (null-Cluster all) ∙ e))
level (Value-F.Queue r) = subst HoldsNone (sym (value.rolls-Queue r)) (λ e. references-Queue r ∙ null_none (ty.QueueRef r.elem) r.at (sym (null-Queue r) ∙ e))
level (Value-F.Cell r) = subst HoldsNone (sym (value.rolls-Cell r)) (λ e. references-Cell r ∙ null_none (ty.ValueRef r.elem) r.at (sym (null-Cell r) ∙ e))

pub refers_nowhere : (v : Value) → refers_to_none v ≡ true → references_of v ≡ []
refers_nowhere = ind-Value HoldsNone (λ x y is. subst (λ z. HoldsNone (roll-Value z)) is (level y))
