-- The value of a literal holds no reference.
use Rattle.std.proofs.Common.{◌≡◌, ℤ, List, [], ◌∷◌, ◌++◌, map, false, refl, ap, sym, ◌∙◌, subst}
use Rattle.std.specs.List.{flat_map}
use Rattle.g_types.specs.declared.ty.Ty.{Ty, out-Ty}
use Rattle.g_types.specs.declared.ty.Ty.TheOpen.{Ty-F}
use Rattle.g_values.specs.declared.value.Value.{Value}
use Rattle.g_diagram.specs.declared.panel.Lit.{Lit}
use Rattle.g_diagram.specs.declared.panel.Lit.TheFolds.{ind-Lit, map-Lit}
use Rattle.g_diagram.specs.declared.panel.Lit.TheOpen.{Lit-F}
use Rattle.g_diagram.specs.declared.panel.Lit.TheVariants as lit
use Rattle.g_diagram.specs.declared.panel.Lit.TheViews.{roll-Lit}
use Rattle.g_literals.specs.Values.{literal_value, number_in, values_in, values_each, array_of, array_in, cluster_in}
use Rattle.g_literals.proofs.ValueLemmas.{of-Number, of-Truth, of-Text, of-Null, of-Array, of-Cluster}
use Rattle.g_reference_laws.specs.Laws.{LiteralsHoldNone}
use Rattle.g_reference_laws.specs.References.{references_of}
use Rattle.g_reference_laws.proofs.Held.{references-Num, references-Bool, references-Str, references-Nums, references-Arr, references-Cluster}
use Rattle.g_reference_laws.proofs.Plain.{defaults_hold_none}

abbrev IsPlain : Lit → Type 0
IsPlain l = (t : Ty) → references_of (literal_value l t) ≡ []

abbrev Plain : Type 0
Plain = (l : Lit) × IsPlain l

abbrev values_of : List Plain → List (Ty → Value)
values_of ps = map literal_value (map (λ (p : Plain). p.0) ps)

plain_number : (n : ℤ) (k : Ty-F Ty) → references_of (number_in n k) ≡ []
plain_number n (Ty-F.Num r) = references-Num _
plain_number n _ = references-Bool false

-- arrays

plain_values : (ps : List Plain) (t : Ty) → flat_map references_of (values_in (values_of ps) t) ≡ []
plain_values [] t = refl
plain_values (p ∷ ps) t = ap (λ l. l ++ flat_map references_of (values_in (values_of ps) t)) (p.1 t) ∙ plain_values ps t

plain_array_of : (t : Ty) (k : Ty-F Ty) (vs : List Value) → flat_map references_of vs ≡ [] → references_of (array_of t k vs) ≡ []
plain_array_of t (Ty-F.Num r) vs e = references-Nums _
plain_array_of t _ vs e = references-Arr (record { elem = t; items = vs }) ∙ e

plain_array : (ps : List Plain) (k : Ty-F Ty) → references_of (array_in (values_of ps) k) ≡ []
plain_array ps (Ty-F.Arr t) = plain_array_of t (out-Ty t) (values_in (values_of ps) t) (plain_values ps t)
plain_array ps _ = references-Bool false

-- clusters

plain_each : (ps : List Plain) (ts : List Ty) → flat_map references_of (values_each (values_of ps) ts) ≡ []
plain_each [] ts = refl
plain_each (p ∷ ps) [] = refl
plain_each (p ∷ ps) (t ∷ ts) = ap (λ l. l ++ flat_map references_of (values_each (values_of ps) ts)) (p.1 t) ∙ plain_each ps ts

plain_cluster : (ps : List Plain) (k : Ty-F Ty) → references_of (cluster_in (values_of ps) k) ≡ []
plain_cluster ps (Ty-F.Cluster ts) = references-Cluster (values_each (values_of ps) ts) ∙ plain_each ps ts
plain_cluster ps _ = references-Bool false

-- all literals

plain_level : (y : Lit-F Plain) → IsPlain (roll-Lit (map-Lit Plain Lit (λ p. p.0) y))
plain_level (Lit-F.Number n) = subst IsPlain (sym (lit.rolls-Number n)) (λ t. ap references_of (of-Number n t) ∙ plain_number n (out-Ty t))
plain_level (Lit-F.Truth b) = subst IsPlain (sym (lit.rolls-Truth b)) (λ t. ap references_of (of-Truth b t) ∙ references-Bool b)
plain_level (Lit-F.Text s) = subst IsPlain (sym (lit.rolls-Text s)) (λ t. ap references_of (of-Text s t) ∙ references-Str s)
plain_level Lit-F.Null = subst IsPlain (sym lit.rolls-Null) (λ t. ap references_of (of-Null t) ∙ defaults_hold_none t)
plain_level (Lit-F.Array ps) =
    let ls = map (λ (p : Plain). p.0) ps in
    subst IsPlain (sym (lit.rolls-Array ls)) (λ t. ap references_of (of-Array ls t) ∙ plain_array ps (out-Ty t))
plain_level (Lit-F.Cluster ps) =
    let ls = map (λ (p : Plain). p.0) ps in
    subst IsPlain (sym (lit.rolls-Cluster ls)) (λ t. ap references_of (of-Cluster ls t) ∙ plain_cluster ps (out-Ty t))

pub literals_hold_none : LiteralsHoldNone
literals_hold_none = ind-Lit IsPlain (λ x y is. subst (λ l. IsPlain (roll-Lit l)) is (plain_level y))
