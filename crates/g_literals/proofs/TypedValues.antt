-- A literal that is a value of a type has a proper value of it.
use Rattle.std.proofs.Common.{◌≡◌, ◌≤◌, ◌<◌, ℕ, ℤ, Bool, true, false, ◌&&◌, List, [], ◌∷◌, map, length, refl, ap, sym, subst, ◌∙◌, arith}
use Rattle.std.specs.Prelude.{nat_le}
use Rattle.std.specs.List.{All}
use Rattle.std.proofs.lemmas.Bool.Decides.{nat_tests}
use Rattle.std.proofs.lemmas.List.{length-map}
use Rattle.std.proofs.lemmas.List.Elements.{All-nil, All-cons, All-head, All-tail}
use Rattle.g_types.specs.Rep.{wrap}
use Rattle.g_types.specs.declared.ty.Ty.{Ty, out-Ty}
use Rattle.g_types.specs.declared.ty.Ty.TheOpen.{Ty-F}
use Rattle.g_types.specs.declared.ty.Ty.TheVariants as ty
use Rattle.g_types.specs.declared.ty.Ty.TheViews.{roll-Ty, roll-out-Ty}
use Rattle.g_types.specs.Ty.{depth, is_num, is_num_at}
use Rattle.g_types.proofs.Depths.{depth-Arr}
use Rattle.g_values.specs.Number.{num_of}
use Rattle.g_values.specs.Numbers.{Numbers}
use Rattle.g_values.specs.Proper.{IsProper, most}
use Rattle.g_values.specs.Spelled.{IsSpelled}
use Rattle.g_values.specs.Typed.{IsOfType}
use Rattle.g_values.specs.Value.{type_of}
use Rattle.g_values.specs.declared.value.ArrOf.{ArrOf}
use Rattle.g_values.specs.declared.value.Value.{Value}
use Rattle.g_values.specs.declared.value.Value.TheVariants as value
use Rattle.g_values.proofs.DefaultValues.{type-default, proper-default}
use Rattle.g_values.proofs.ProperLemmas.{proper_num, proper_bool, proper_nums, proper_cluster}
use Rattle.g_values.proofs.ProperParts.{proper_text, proper_array}
use Rattle.g_values.proofs.SpelledTypes.{layer-Arr, layer-Cluster, spelled_item, spelled_parts}
use Rattle.g_values.proofs.TypesOf.{type-Num, type-Bool, type-Str, type-Nums, type-Arr, type-Cluster}
use Rattle.g_prims_definitions.specs.Arrays.{number_of}
use Rattle.g_prims_definitions.specs.Kinds.{is_bool_at, is_str_at}
use Rattle.g_diagram.specs.declared.panel.Lit.{Lit}
use Rattle.g_diagram.specs.declared.panel.Lit.TheOpen.{Lit-F}
use Rattle.g_diagram.specs.declared.panel.Lit.TheVariants as lit
use Rattle.g_diagram.specs.declared.panel.Lit.TheViews.{roll-Lit}
use Rattle.g_diagram.specs.declared.panel.Lit.TheFolds.{ind-Lit, map-Lit}
use Rattle.g_typing.specs.Literals.{is_value_of, is_number_of, is_short, are_values_of, is_array_of, are_each, is_cluster_of}
use Rattle.g_typing.proofs.LiteralLemmas.{value-Number, value-Truth, value-Text, value-Array, value-Cluster}
use Rattle.g_literals.specs.Values.{literal_value, number_in, values_in, values_each, array_of, array_in, cluster_in}
use Rattle.g_literals.proofs.ValueLemmas.{of-Number, of-Truth, of-Text, of-Null, of-Array, of-Cluster}

abbrev Typed : Lit → Type 0
Typed l = (t : Ty) → is_value_of l t ≡ true → IsSpelled t → IsOfType t (literal_value l t)

abbrev Told : Type 0
Told = (l : Lit) × Typed l

both : (a b : Bool) → (a && b) ≡ true → (a ≡ true) × (b ≡ true)
both true b e = (refl, e)
both false b e = absurd cc

short : (n : ℕ) → nat_le n most ≡ true → n ≤ most
short n h = grind (arith, nat_tests)

rolled : (t : Ty) (k : Ty-F Ty) → out-Ty t ≡ k → roll-Ty k ≡ t
rolled t k e = ap roll-Ty (sym e) ∙ roll-out-Ty t

number_typed : (n : ℤ) (t : Ty) (k : Ty-F Ty) → out-Ty t ≡ k → is_number_of n k ≡ true → IsOfType t (number_in n k)
number_typed n t (Ty-F.Num r) e h = record { proper = proper_num (num_of r n); of_type = type-Num (num_of r n) ∙ sym (ty.rolls-Num r) ∙ rolled t (Ty-F.Num r) e }
number_typed n t _ e h = absurd cc

truth_typed : (b : Bool) (t : Ty) (k : Ty-F Ty) → out-Ty t ≡ k → is_bool_at k ≡ true → IsOfType t (value.Bool b)
truth_typed b t Ty-F.Bool e h = record { proper = proper_bool b; of_type = type-Bool b ∙ sym ty.rolls-Bool ∙ rolled t Ty-F.Bool e }
truth_typed b t _ e h = absurd cc

text_typed : (s : List ℕ) (t : Ty) (k : Ty-F Ty) → out-Ty t ≡ k → (is_str_at k && is_short s) ≡ true → IsOfType t (value.Str s)
text_typed s t Ty-F.Str e h = record { proper = proper_text s (short (length s) h); of_type = type-Str s ∙ sym ty.rolls-Str ∙ rolled t Ty-F.Str e }
text_typed s t _ e h = absurd cc

-- ---- arrays

all_typed : (ps : List Told) (t : Ty) → are_values_of (map is_value_of (map (λ (p : Told). p.0) ps)) t ≡ true → IsSpelled t → All (IsOfType t) (values_in (map literal_value (map (λ (p : Told). p.0) ps)) t)
all_typed [] t h s = All-nil (IsOfType t)
all_typed (p ∷ ps) t h s =
    let b = both (is_value_of p.0 t) (are_values_of (map is_value_of (map (λ (q : Told). q.0) ps)) t) h in
    All-cons (IsOfType t) (literal_value p.0 t) (values_in (map literal_value (map (λ (q : Told). q.0) ps)) t) (p.1 t b.0 s) (all_typed ps t b.1 s)

all_proper : (t : Ty) (vs : List Value) → All (IsOfType t) vs → All IsProper vs
all_proper t vs all = λ k c lt. (all k c lt).proper

all_of_type : (t : Ty) (vs : List Value) → All (IsOfType t) vs → All (λ v. type_of v ≡ t) vs
all_of_type t vs all = λ k c lt. (all k c lt).of_type

below : (t : Ty) → IsSpelled (ty.Arr t) → depth t < 8
below t s = let e = depth-Arr t in let d = s.shallow in omega arith

elements_typed : (t : Ty) (vs : List Value) → is_num t ≡ false → length vs ≤ most → IsSpelled (ty.Arr t) → All (IsOfType t) vs → IsOfType (ty.Arr t) (value.Arr (record { elem = t; items = vs }))
elements_typed t vs n few s all =
    let xs : ArrOf Value = record { elem = t; items = vs } in
    record {
      proper = proper_array xs (record { few = few; one_type = all_of_type t vs all; no_number = n; no_array = layer-Arr t s.whole }) (below t s) (spelled_item t s) (all_proper t vs all);
      of_type = type-Arr xs;
    }

array_by : (t : Ty) (k : Ty-F Ty) (vs : List Value) → out-Ty t ≡ k → length vs ≤ most → IsSpelled (ty.Arr t) → All (IsOfType t) vs → IsOfType (ty.Arr t) (array_of t k vs)
array_by t (Ty-F.Num r) vs e few s all =
    let xs : Numbers = record { rep = r; all = map (λ v. wrap r (number_of v)) vs } in
    let long = length-map vs (λ v. wrap r (number_of v)) in
    record { proper = proper_nums xs (omega arith); of_type = type-Nums xs ∙ ap ty.Arr (sym (ty.rolls-Num r) ∙ rolled t (Ty-F.Num r) e) }
array_by t Ty-F.Bool vs e few s all = elements_typed t vs (ap is_num_at e) few s all
array_by t Ty-F.Str vs e few s all = elements_typed t vs (ap is_num_at e) few s all
array_by t (Ty-F.Arr u) vs e few s all = elements_typed t vs (ap is_num_at e) few s all
array_by t (Ty-F.Cluster us) vs e few s all = elements_typed t vs (ap is_num_at e) few s all
array_by t (Ty-F.QueueRef u) vs e few s all = elements_typed t vs (ap is_num_at e) few s all
array_by t (Ty-F.ValueRef u) vs e few s all = elements_typed t vs (ap is_num_at e) few s all

array_typed : (ps : List Told) (t : Ty) (k : Ty-F Ty) → out-Ty t ≡ k → is_array_of (map is_value_of (map (λ (p : Told). p.0) ps)) k ≡ true → IsSpelled t → IsOfType t (array_in (map literal_value (map (λ (p : Told). p.0) ps)) k)
array_typed ps t (Ty-F.Arr u) e h s =
    let ls = map (λ (p : Told). p.0) ps in
    let same : ty.Arr u ≡ t = sym (ty.rolls-Arr u) ∙ rolled t (Ty-F.Arr u) e in
    let b = both (is_short (map is_value_of ls)) (are_values_of (map is_value_of ls) u) h in
    let spelled = subst IsSpelled (sym same) s in
    let few : length (map is_value_of ls) ≤ most = short (length (map is_value_of ls)) b.0 in
    let one = length-map ls is_value_of in
    let two = length-map ls literal_value in
    let three = length-map (map literal_value ls) (λ (f : Ty → Value). f u) in
    subst (λ x. IsOfType x (array_of u (out-Ty u) (values_in (map literal_value ls) u))) same
    (array_by u (out-Ty u) (values_in (map literal_value ls) u) refl (omega arith) spelled (all_typed ps u b.1 (spelled_item u spelled)))
array_typed ps t _ e h s = absurd cc

-- ---- clusters

record AreEach (ts : List Ty) (vs : List Value) : Type 0 where
  pub proper : All IsProper vs
  pub of_types : map type_of vs ≡ ts

each_typed : (ps : List Told) (ts : List Ty) → are_each (map is_value_of (map (λ (p : Told). p.0) ps)) ts ≡ true → All IsSpelled ts → AreEach ts (values_each (map literal_value (map (λ (p : Told). p.0) ps)) ts)
each_typed [] [] h s = record { proper = All-nil IsProper; of_types = refl }
each_typed [] (t ∷ ts) h s = absurd cc
each_typed (p ∷ ps) [] h s = absurd cc
each_typed (p ∷ ps) (t ∷ ts) h s =
    let b = both (is_value_of p.0 t) (are_each (map is_value_of (map (λ (q : Told). q.0) ps)) ts) h in
    let here = p.1 t b.0 (All-head IsSpelled t ts s) in
    let rest = each_typed ps ts b.1 (All-tail IsSpelled t ts s) in
    record {
      proper = All-cons IsProper _ _ here.proper rest.proper;
      of_types = ap (λ u. u ∷ map type_of (values_each (map literal_value (map (λ (q : Told). q.0) ps)) ts)) here.of_type ∙ ap (λ us. t ∷ us) rest.of_types;
    }

cluster_typed : (ps : List Told) (t : Ty) (k : Ty-F Ty) → out-Ty t ≡ k → is_cluster_of (map is_value_of (map (λ (p : Told). p.0) ps)) k ≡ true → IsSpelled t → IsOfType t (cluster_in (map literal_value (map (λ (p : Told). p.0) ps)) k)
cluster_typed ps t (Ty-F.Cluster ts) e h s =
    let ls = map (λ (p : Told). p.0) ps in
    let vs = values_each (map literal_value ls) ts in
    let same : ty.Cluster ts ≡ t = sym (ty.rolls-Cluster ts) ∙ rolled t (Ty-F.Cluster ts) e in
    let spelled = subst IsSpelled (sym same) s in
    let each = each_typed ps ts h (spelled_parts ts spelled) in
    let type : type_of (value.Cluster vs) ≡ ty.Cluster ts = type-Cluster vs ∙ ap ty.Cluster each.of_types in
    let long : length vs ≡ length ts = sym (length-map vs type_of) ∙ ap length each.of_types in
    let layer = layer-Cluster ts spelled.whole in
    let some = layer.some in
    let few = layer.few in
    record {
      proper = proper_cluster vs (record { some = omega arith; few = omega arith }) (subst (λ u. depth u ≤ 8) (sym type) spelled.shallow) each.proper;
      of_type = type ∙ same;
    }
cluster_typed ps t _ e h s = absurd cc

-- ---- all literals

told : (y : Lit-F Told) → Typed (roll-Lit (map-Lit Told Lit (λ p. p.0) y))
told (Lit-F.Number n) = subst Typed (sym (lit.rolls-Number n)) (λ t h s. subst (IsOfType t) (sym (of-Number n t)) (number_typed n t (out-Ty t) refl (sym (value-Number n t) ∙ h)))
told (Lit-F.Truth b) = subst Typed (sym (lit.rolls-Truth b)) (λ t h s. subst (IsOfType t) (sym (of-Truth b t)) (truth_typed b t (out-Ty t) refl (sym (value-Truth b t) ∙ h)))
told (Lit-F.Text x) = subst Typed (sym (lit.rolls-Text x)) (λ t h s. subst (IsOfType t) (sym (of-Text x t)) (text_typed x t (out-Ty t) refl (sym (value-Text x t) ∙ h)))
told Lit-F.Null = subst Typed (sym lit.rolls-Null) (λ t h s. subst (IsOfType t) (sym (of-Null t)) (record { proper = proper-default t s; of_type = type-default t }))
told (Lit-F.Array ps) =
    subst Typed (sym (lit.rolls-Array (map (λ (p : Told). p.0) ps)))
    (λ t h s. subst (IsOfType t) (sym (of-Array (map (λ (p : Told). p.0) ps) t)) (array_typed ps t (out-Ty t) refl (sym (value-Array (map (λ (p : Told). p.0) ps) t) ∙ h) s))
told (Lit-F.Cluster ps) =
    subst Typed (sym (lit.rolls-Cluster (map (λ (p : Told). p.0) ps)))
    (λ t h s. subst (IsOfType t) (sym (of-Cluster (map (λ (p : Told). p.0) ps) t)) (cluster_typed ps t (out-Ty t) refl (sym (value-Cluster (map (λ (p : Told). p.0) ps) t) ∙ h) s))

pub typed_literal : (l : Lit) → Typed l
typed_literal = ind-Lit Typed (λ x y is. subst (λ l. Typed (roll-Lit l)) is (told y))
