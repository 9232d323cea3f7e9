-- The references of a value, by the value's variants and by its outermost level.
use Rattle.std.proofs.Common.{◌≡◌, ℕ, Bool, List, [], ◌∷◌, ◌++◌, sym, ap, ◌∙◌, subst}
use Rattle.std.specs.List.{All, flat_map}
use Rattle.std.proofs.lemmas.List.Elements.{All-nil, All-cons, All-head, All-tail, All-append}
use Rattle.std.proofs.lemmas.List.Folds.{flat_map-map}
use Rattle.g_types.specs.declared.ty.Ty.TheVariants as ty
use Rattle.g_values.specs.Numbers.{Numbers}
use Rattle.g_values.specs.declared.num.Num.{Num}
use Rattle.g_values.specs.declared.value.ArrOf.{ArrOf}
use Rattle.g_values.specs.declared.value.RefValue.{RefValue}
use Rattle.g_values.specs.declared.value.Value.{Value, out-Value}
use Rattle.g_values.specs.declared.value.Value.TheVariants as value
use Rattle.g_values.specs.declared.value.Value.TheFolds.{fold-roll-Value}
use Rattle.g_values.specs.declared.value.Value.TheOpen.{Value-F}
use Rattle.g_values.specs.declared.value.Value.TheViews.{roll-Value, roll-out-Value}
use Rattle.g_prims_definitions.specs.Bits.{items, items_of}
use Rattle.g_reference_laws.specs.References.{Reference, reference, references_of, references_step, HoldsOnly}

pub references-Num : (x : Num) → references_of (value.Num x) ≡ []
references-Num x = ap references_of (sym (value.rolls-Num x)) ∙ fold-roll-Value (List Reference) references_step (Value-F.Num x)

pub references-Bool : (b : Bool) → references_of (value.Bool b) ≡ []
references-Bool b = ap references_of (sym (value.rolls-Bool b)) ∙ fold-roll-Value (List Reference) references_step (Value-F.Bool b)

pub references-Str : (s : List ℕ) → references_of (value.Str s) ≡ []
references-Str s = ap references_of (sym (value.rolls-Str s)) ∙ fold-roll-Value (List Reference) references_step (Value-F.Str s)

pub references-Nums : (xs : Numbers) → references_of (value.Nums xs) ≡ []
references-Nums xs = ap references_of (sym (value.rolls-Nums xs)) ∙ fold-roll-Value (List Reference) references_step (Value-F.Nums xs)

rolled-Arr : (xs : ArrOf Value) → references_of (roll-Value (Value-F.Arr xs)) ≡ flat_map references_of xs.items
rolled-Arr xs = fold-roll-Value (List Reference) references_step (Value-F.Arr xs) ∙ flat_map-map (λ l. l) references_of xs.items

rolled-Cluster : (vs : List Value) → references_of (roll-Value (Value-F.Cluster vs)) ≡ flat_map references_of vs
rolled-Cluster vs = fold-roll-Value (List Reference) references_step (Value-F.Cluster vs) ∙ flat_map-map (λ l. l) references_of vs

pub references-Arr : (xs : ArrOf Value) → references_of (value.Arr xs) ≡ flat_map references_of xs.items
references-Arr xs = ap references_of (sym (value.rolls-Arr xs)) ∙ rolled-Arr xs

pub references-Cluster : (vs : List Value) → references_of (value.Cluster vs) ≡ flat_map references_of vs
references-Cluster vs = ap references_of (sym (value.rolls-Cluster vs)) ∙ rolled-Cluster vs

pub references-Queue : (r : RefValue) → references_of (value.Queue r) ≡ reference (ty.QueueRef r.elem) r.at
references-Queue r = ap references_of (sym (value.rolls-Queue r)) ∙ fold-roll-Value (List Reference) references_step (Value-F.Queue r)

pub references-Cell : (r : RefValue) → references_of (value.Cell r) ≡ reference (ty.ValueRef r.elem) r.at
references-Cell r = ap references_of (sym (value.rolls-Cell r)) ∙ fold-roll-Value (List Reference) references_step (Value-F.Cell r)

-- what the values of a level hold
abbrev pub HoldsAt : (Reference → Type 0) → Value-F Value → Type 0
HoldsAt P (Value-F.Arr xs) = All (HoldsOnly P) xs.items
HoldsAt P (Value-F.Cluster vs) = All (HoldsOnly P) vs
HoldsAt P _ = Unit {0}

module _ (P : Reference → Type 0) where
  pub holds_none : (v : Value) → references_of v ≡ [] → HoldsOnly P v
  holds_none v e = subst (All P) (sym e) (All-nil P)

  -- several values together, and each of them

  together : (vs : List Value) → All (HoldsOnly P) vs → All P (flat_map references_of vs)
  together [] all = All-nil P
  together (v ∷ vs) all = All-append P (references_of v) (flat_map references_of vs) (All-head (HoldsOnly P) v vs all) (together vs (All-tail (HoldsOnly P) v vs all))

  front : (rs ss : List Reference) → All P (rs ++ ss) → All P rs
  front [] ss all = All-nil P
  front (r ∷ rs) ss all = All-cons P r rs (All-head P r (rs ++ ss) all) (front rs ss (All-tail P r (rs ++ ss) all))

  back : (rs ss : List Reference) → All P (rs ++ ss) → All P ss
  back [] ss all = all
  back (r ∷ rs) ss all = back rs ss (All-tail P r (rs ++ ss) all)

  pub each : (vs : List Value) → All P (flat_map references_of vs) → All (HoldsOnly P) vs
  each [] all = All-nil (HoldsOnly P)
  each (v ∷ vs) all =
      let rest = flat_map references_of vs in
      All-cons (HoldsOnly P) v vs (front (references_of v) rest all) (each vs (back (references_of v) rest all))

  pub holds_items : (xs : ArrOf Value) (vs : List Value) → All (HoldsOnly P) vs → HoldsOnly P (items xs vs)
  holds_items xs vs all = subst (All P) (sym (references-Arr (items_of xs vs))) (together vs all)

  pub holds_cluster : (vs : List Value) → All (HoldsOnly P) vs → HoldsOnly P (value.Cluster vs)
  holds_cluster vs all = subst (All P) (sym (references-Cluster vs)) (together vs all)

  rolled : (l : Value-F Value) → HoldsOnly P (roll-Value l) → HoldsAt P l
  rolled (Value-F.Arr xs) all = each xs.items (subst (All P) (rolled-Arr xs) all)
  rolled (Value-F.Cluster vs) all = each vs (subst (All P) (rolled-Cluster vs) all)
  rolled _ all = tt

  pub level : (v : Value) → HoldsOnly P v → HoldsAt P (out-Value v)
  level v all = rolled (out-Value v) (subst (HoldsOnly P) (sym (roll-out-Value v)) all)
