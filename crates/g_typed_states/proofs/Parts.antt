-- Types and values by their outermost level: elements of arrays, parts of clusters, references.
use Rattle.std.proofs.Common.{◌≡◌, ◌≤◌, ◌<◌, true, false, ℕ, zero, suc, List, [], ◌∷◌, map, length, cond, Option, Some, None, arith, refl, ap, sym, ◌∙◌, subst}
use Rattle.std.specs.Prelude.{ℤ, pos, slice_get, take}
use Rattle.std.specs.List.{All}
use Rattle.std.proofs.lemmas.List.{length-map}
use Rattle.std.proofs.Common.{length-take}
use Rattle.std.proofs.lemmas.List.Elements.{All-nil, All-cons, All-head, All-tail}
use Rattle.g_types.specs.Rep.{wrap}
use Rattle.g_types.specs.Ty.{depth, is_num, is_num_at}
use Rattle.g_types.specs.declared.ty.Ty.{Ty, out-Ty}
use Rattle.g_types.specs.declared.ty.Ty.TheVariants as ty
use Rattle.g_types.specs.declared.ty.Ty.TheOpen.{Ty-F}
use Rattle.g_types.specs.declared.ty.Ty.TheViews.{roll-Ty, roll-out-Ty}
use Rattle.g_types.specs.declared.ty.Ty.TheFolds.{map-Ty, every_held-Ty}
use Rattle.g_types.proofs.Depths.{depth-Arr, depth-QueueRef, depth-ValueRef}
use Rattle.g_values.specs.Numbers.{Numbers}
use Rattle.g_values.specs.declared.primitive.Primitive.TheVariants as op
use Rattle.g_values.specs.declared.value.ArrOf.{ArrOf}
use Rattle.g_values.specs.declared.value.RefValue.{RefValue}
use Rattle.g_values.specs.declared.value.Value.{Value, out-Value}
use Rattle.g_values.specs.declared.value.Value.TheVariants as value
use Rattle.g_values.specs.declared.value.Value.TheOpen.{Value-F}
use Rattle.g_values.specs.declared.value.Value.TheViews.{roll-Value, roll-out-Value}
use Rattle.g_values.specs.declared.value.Value.TheFolds.{fold_out-Value, map-Value}
use Rattle.g_values.specs.Proper.{IsProper, most}
use Rattle.g_values.specs.Spelled.{IsSpelled, IsTypeLayer, IsWholeType, is_array, is_array_at}
use Rattle.g_values.specs.Value.{type_of, type_step}
use Rattle.g_values.proofs.ProperLemmas.{proper_nums}
use Rattle.g_values.proofs.ProperParts.{proper_array, spelled_elem, proper_items, layer-of_array}
use Rattle.g_values.proofs.SpelledTypes.{layer-Arr, spelled_item}
use Rattle.g_values.proofs.TypesOf.{type-Nums, type-Arr}
use Rattle.g_prims_definitions.specs.Arrays.{index_array, indexed_at, number_of, replace, within, or_default, or_default_number, element as element_in}
use Rattle.g_prims_definitions.specs.Clusters.{get, put}
use Rattle.g_prims_definitions.specs.Kinds.{is_assignable, is_assignable_to, item, item_at, part}
use Rattle.g_prims_definitions.specs.Row.{read, given, another, ends}
use Rattle.g_prims_definitions.specs.Rows.{row_of, single, when, is_known}
use Rattle.g_typing.specs.Types.{element, queued, queued_at, referred, referred_at}
use Rattle.g_literals.specs.Values.{array_of}
use Rattle.g_reference_laws.specs.References.{HoldsOnly}
use Rattle.g_reference_laws.proofs.Held.{HoldsAt, level, holds_none, holds_items, references-Nums}
use Rattle.g_frames.specs.Program.{Program}
use Rattle.g_frames.proofs.RunLemmas.{some_is}
use Rattle.g_typed_states.specs.Typed.{IsNamed, IsTypedValue, AllTyped}
use Rattle.g_typed_states.proofs.Values.{outputs_typed, number_value, default_value}
use Rattle.g_typed_states.proofs.Lists.{none_is}

-- ---- types

array_at : (u t : Ty) (k : Ty-F Ty) → out-Ty u ≡ k → element u ≡ Some t → u ≡ ty.Arr t
array_at u t (Ty-F.Arr x) e is = let same : x ≡ t = cc in sym (roll-out-Ty u) ∙ ap roll-Ty e ∙ ty.rolls-Arr x ∙ ap ty.Arr same
array_at u t Ty-F.Bool e is = absurd cc
array_at u t Ty-F.Str e is = absurd cc
array_at u t (Ty-F.Num x) e is = absurd cc
array_at u t (Ty-F.Cluster x) e is = absurd cc
array_at u t (Ty-F.QueueRef x) e is = absurd cc
array_at u t (Ty-F.ValueRef x) e is = absurd cc

pub array_is : (u t : Ty) → element u ≡ Some t → u ≡ ty.Arr t
array_is u t is = array_at u t (out-Ty u) refl is

queue_at : (u t : Ty) (k : Ty-F Ty) → out-Ty u ≡ k → queued u ≡ Some t → u ≡ ty.QueueRef t
queue_at u t (Ty-F.QueueRef x) e is = let same : x ≡ t = cc in sym (roll-out-Ty u) ∙ ap roll-Ty e ∙ ty.rolls-QueueRef x ∙ ap ty.QueueRef same
queue_at u t Ty-F.Bool e is = absurd cc
queue_at u t Ty-F.Str e is = absurd cc
queue_at u t (Ty-F.Num x) e is = absurd cc
queue_at u t (Ty-F.Cluster x) e is = absurd cc
queue_at u t (Ty-F.Arr x) e is = absurd cc
queue_at u t (Ty-F.ValueRef x) e is = absurd cc

pub queue_is : (u t : Ty) → queued u ≡ Some t → u ≡ ty.QueueRef t
queue_is u t is = queue_at u t (out-Ty u) refl is

cell_at : (u t : Ty) (k : Ty-F Ty) → out-Ty u ≡ k → referred u ≡ Some t → u ≡ ty.ValueRef t
cell_at u t (Ty-F.ValueRef x) e is = let same : x ≡ t = cc in sym (roll-out-Ty u) ∙ ap roll-Ty e ∙ ty.rolls-ValueRef x ∙ ap ty.ValueRef same
cell_at u t Ty-F.Bool e is = absurd cc
cell_at u t Ty-F.Str e is = absurd cc
cell_at u t (Ty-F.Num x) e is = absurd cc
cell_at u t (Ty-F.Cluster x) e is = absurd cc
cell_at u t (Ty-F.Arr x) e is = absurd cc
cell_at u t (Ty-F.QueueRef x) e is = absurd cc

pub cell_is : (u t : Ty) → referred u ≡ Some t → u ≡ ty.ValueRef t
cell_is u t is = cell_at u t (out-Ty u) refl is

pub element-Arr : (t : Ty) → element (ty.Arr t) ≡ Some t
element-Arr t = rw (ty.outs-Arr t) refl

pub queued-QueueRef : (t : Ty) → queued (ty.QueueRef t) ≡ Some t
queued-QueueRef t = rw (ty.outs-QueueRef t) refl

pub referred-ValueRef : (t : Ty) → referred (ty.ValueRef t) ≡ Some t
referred-ValueRef t = rw (ty.outs-ValueRef t) refl

-- what references name is of a type that a listing can write

abbrev WholeTypes : Type 0
WholeTypes = (t : Ty) × IsWholeType t

held_queue : (y : Ty-F WholeTypes) (t : Ty) → map-Ty WholeTypes Ty (λ p. p.0) y ≡ Ty-F.QueueRef t → IsWholeType t
held_queue (Ty-F.QueueRef q) t e = let m : q.0 ≡ t = cc in subst IsWholeType m q.1
held_queue (Ty-F.Num r) t e = absurd cc
held_queue Ty-F.Bool t e = absurd cc
held_queue Ty-F.Str t e = absurd cc
held_queue (Ty-F.Arr q) t e = absurd cc
held_queue (Ty-F.Cluster qs) t e = absurd cc
held_queue (Ty-F.ValueRef q) t e = absurd cc

held_cell : (y : Ty-F WholeTypes) (t : Ty) → map-Ty WholeTypes Ty (λ p. p.0) y ≡ Ty-F.ValueRef t → IsWholeType t
held_cell (Ty-F.ValueRef q) t e = let m : q.0 ≡ t = cc in subst IsWholeType m q.1
held_cell (Ty-F.Num r) t e = absurd cc
held_cell Ty-F.Bool t e = absurd cc
held_cell Ty-F.Str t e = absurd cc
held_cell (Ty-F.Arr q) t e = absurd cc
held_cell (Ty-F.Cluster qs) t e = absurd cc
held_cell (Ty-F.QueueRef q) t e = absurd cc

pub spelled_queued : (t : Ty) → IsSpelled (ty.QueueRef t) → IsSpelled t
spelled_queued t s =
    let h = every_held-Ty IsTypeLayer (ty.QueueRef t) s.whole in
    let d = depth-QueueRef t in
    let few = s.shallow in
    record { whole = held_queue h.0 t (h.1 ∙ ty.outs-QueueRef t); shallow = omega arith }

pub spelled_referred : (t : Ty) → IsSpelled (ty.ValueRef t) → IsSpelled t
spelled_referred t s =
    let h = every_held-Ty IsTypeLayer (ty.ValueRef t) s.whole in
    let d = depth-ValueRef t in
    let few = s.shallow in
    record { whole = held_cell h.0 t (h.1 ∙ ty.outs-ValueRef t); shallow = omega arith }

-- ---- references

-- the outermost level of a value's type
abbrev out_type : Value-F Ty → Ty-F Ty
out_type (Value-F.Num x) = Ty-F.Num x.rep
out_type (Value-F.Bool b) = Ty-F.Bool
out_type (Value-F.Str s) = Ty-F.Str
out_type (Value-F.Nums xs) = Ty-F.Arr (ty.Num xs.rep)
out_type (Value-F.Arr xs) = Ty-F.Arr xs.elem
out_type (Value-F.Cluster ts) = Ty-F.Cluster ts
out_type (Value-F.Queue r) = Ty-F.QueueRef r.elem
out_type (Value-F.Cell r) = Ty-F.ValueRef r.elem

outs_type : (l : Value-F Ty) → out-Ty (type_step l) ≡ out_type l
outs_type (Value-F.Num x) = ty.outs-Num x.rep
outs_type (Value-F.Bool b) = ty.outs-Bool
outs_type (Value-F.Str s) = ty.outs-Str
outs_type (Value-F.Nums xs) = ty.outs-Arr (ty.Num xs.rep)
outs_type (Value-F.Arr xs) = ty.outs-Arr xs.elem
outs_type (Value-F.Cluster ts) = ty.outs-Cluster ts
outs_type (Value-F.Queue r) = ty.outs-QueueRef r.elem
outs_type (Value-F.Cell r) = ty.outs-ValueRef r.elem

outs_type_of : (v : Value) → out-Ty (type_of v) ≡ out_type (map-Value Value Ty type_of (out-Value v))
outs_type_of v = ap out-Ty (fold_out-Value Ty type_step v) ∙ outs_type (map-Value Value Ty type_of (out-Value v))

-- a value of a reference's type is a reference
pub record IsReference (make : RefValue → Value) (level : RefValue → Value-F Value) (t : Ty) (v : Value) : Type 0 where
  pub ref : RefValue
  pub is : v ≡ make ref
  pub opens : out-Value v ≡ level ref
  pub elem_is : ref.elem ≡ t

queue_value_at : (v : Value) (t : Ty) (l : Value-F Value) → out-Value v ≡ l → queued_at (out_type (map-Value Value Ty type_of l)) ≡ Some t → IsReference value.Queue Value-F.Queue t v
queue_value_at v t (Value-F.Queue r) e is = record { ref = r; is = sym (roll-out-Value v) ∙ ap roll-Value e ∙ value.rolls-Queue r; opens = e; elem_is = some_is r.elem t is }
queue_value_at v t (Value-F.Num x) e is = absurd cc
queue_value_at v t (Value-F.Bool x) e is = absurd cc
queue_value_at v t (Value-F.Str x) e is = absurd cc
queue_value_at v t (Value-F.Nums x) e is = absurd cc
queue_value_at v t (Value-F.Arr x) e is = absurd cc
queue_value_at v t (Value-F.Cluster x) e is = absurd cc
queue_value_at v t (Value-F.Cell x) e is = absurd cc

pub queue_value : (v : Value) (t : Ty) → type_of v ≡ ty.QueueRef t → IsReference value.Queue Value-F.Queue t v
queue_value v t is = queue_value_at v t (out-Value v) refl (sym (ap queued_at (outs_type_of v)) ∙ ap queued is ∙ queued-QueueRef t)

cell_value_at : (v : Value) (t : Ty) (l : Value-F Value) → out-Value v ≡ l → referred_at (out_type (map-Value Value Ty type_of l)) ≡ Some t → IsReference value.Cell Value-F.Cell t v
cell_value_at v t (Value-F.Cell r) e is = record { ref = r; is = sym (roll-out-Value v) ∙ ap roll-Value e ∙ value.rolls-Cell r; opens = e; elem_is = some_is r.elem t is }
cell_value_at v t (Value-F.Num x) e is = absurd cc
cell_value_at v t (Value-F.Bool x) e is = absurd cc
cell_value_at v t (Value-F.Str x) e is = absurd cc
cell_value_at v t (Value-F.Nums x) e is = absurd cc
cell_value_at v t (Value-F.Arr x) e is = absurd cc
cell_value_at v t (Value-F.Cluster x) e is = absurd cc
cell_value_at v t (Value-F.Queue x) e is = absurd cc

pub cell_value : (v : Value) (t : Ty) → type_of v ≡ ty.ValueRef t → IsReference value.Cell Value-F.Cell t v
cell_value v t is = cell_value_at v t (out-Value v) refl (sym (ap referred_at (outs_type_of v)) ∙ ap referred is ∙ referred-ValueRef t)

-- ---- parts of values

array_true : (t : Ty) → is_array (ty.Arr t) ≡ true
array_true t = ap is_array_at (ty.outs-Arr t)

row_index : (t u : Ty) → is_num u ≡ true → row_of op.IndexArray (ty.Arr t ∷ u ∷ []) ≡ Some (t ∷ [])
row_index t u is =
    ap (λ b. read (given b (another (λ y. ends (cond (is_num y) (single (item (ty.Arr t))) None)))) (u ∷ [])) (array_true t)
    ∙ ap (λ b. read (ends (cond b (single (item (ty.Arr t))) None)) []) is
    ∙ ap (λ o. read (ends (single o)) []) (element-Arr t)

row_replace : (t u e : Ty) → is_num u ≡ true → is_assignable e t ≡ true → row_of op.Replace (ty.Arr t ∷ u ∷ e ∷ []) ≡ Some (ty.Arr t ∷ [])
row_replace t u e is fits =
    let a = ty.Arr t in
    ap (λ b. read (given b (another (λ y. given (is_num y) (another (λ z. ends (when (is_assignable_to z (item a)) (a ∷ []))))))) (u ∷ e ∷ [])) (array_true t)
    ∙ ap (λ b. read (given b (another (λ z. ends (when (is_assignable_to z (item a)) (a ∷ []))))) (e ∷ [])) is
    ∙ ap (λ o. read (ends (when (is_assignable_to e o) (a ∷ []))) []) (element-Arr t)
    ∙ ap (λ b. read (ends (when b (a ∷ []))) []) fits

row_get : (k : ℕ) (c t : Ty) → part k c ≡ Some t → row_of (op.Get k) (c ∷ []) ≡ Some (t ∷ [])
row_get k c t is = ap (λ o. read (ends (single o)) []) is

row_put : (k : ℕ) (c t e : Ty) → part k c ≡ Some t → is_assignable e t ≡ true → row_of (op.Set k) (c ∷ e ∷ []) ≡ Some (c ∷ [])
row_put k c t e is fits =
    ap (λ o. read (given (is_known o) (another (λ z. ends (when (is_assignable_to z (part k c)) (c ∷ []))))) (e ∷ [])) is
    ∙ ap (λ o. read (ends (when (is_assignable_to e o) (c ∷ []))) []) is
    ∙ ap (λ b. read (ends (when b (c ∷ []))) []) fits

each_at : {A : Type 0} (P : A → Type 0) (xs : List A) (k : ℕ) (x : A) → All P xs → slice_get xs k ≡ Some x → P x
each_at P [] k x all at = absurd (none_is x at)
each_at P (y ∷ xs) zero x all at = subst P (some_is y x at) (All-head P y xs all)
each_at P (y ∷ xs) (suc k) x all at = each_at P xs k x (All-tail P y xs all) at

below : (t : Ty) → IsSpelled (ty.Arr t) → depth t < 8
below t s = let e = depth-Arr t in let d = s.shallow in omega arith

module _ (p : Program) where
  pub index_typed : (t u : Ty) (a i : Value) → IsTypedValue p (ty.Arr t) a → IsTypedValue p u i → is_num u ≡ true → IsTypedValue p t (index_array a i)
  index_typed t u a i array index num = (outputs_typed p op.IndexArray (ty.Arr t ∷ u ∷ []) (t ∷ []) (a ∷ i ∷ []) (array, (index, tt)) (row_index t u num)).0

  indexed_numbers : (xs : Numbers) (o : Option ℤ) → IsTypedValue p (ty.Num xs.rep) (or_default_number xs.rep o)
  indexed_numbers xs None = number_value p xs.rep (pos 0)
  indexed_numbers xs (Some n) = number_value p xs.rep n

  indexed_items : (xs : ArrOf Value) → IsTypedValue p (ty.Arr xs.elem) (value.Arr xs) → (k : ℕ) (o : Option Value) → slice_get xs.items k ≡ o → IsTypedValue p xs.elem (or_default xs.elem o)
  indexed_items xs is k None at = default_value p xs.elem (spelled_elem xs is.typed.proper)
  indexed_items xs is k (Some v) at = record {
    typed = record {
      proper = each_at IsProper xs.items k v (proper_items xs is.typed.proper) at;
      of_type = each_at (λ x. type_of x ≡ xs.elem) xs.items k v (layer-of_array xs is.typed.proper).one_type at;
    };
    named = each_at (HoldsOnly (IsNamed p)) xs.items k v
        (subst (HoldsAt (IsNamed p)) (value.outs-Arr xs) (level (IsNamed p) (value.Arr xs) is.named)) at;
  }

  indexed_level : (t : Ty) (a : Value) (l : Value-F Value) → out-Value a ≡ l → (k : ℕ) → IsTypedValue p (ty.Arr t) a → item_at (out_type (map-Value Value Ty type_of l)) ≡ Some t
      → IsTypedValue p t (indexed_at l (pos k))
  indexed_level t a (Value-F.Nums xs) e k array is = subst (λ u. IsTypedValue p u (indexed_at (Value-F.Nums xs) (pos k))) (some_is (ty.Num xs.rep) t is) (indexed_numbers xs (element_in xs.all (pos k)))
  indexed_level t a (Value-F.Arr xs) e k array is =
      let same : xs.elem ≡ t = some_is xs.elem t is in
      let ev : a ≡ value.Arr xs = sym (roll-out-Value a) ∙ ap roll-Value e ∙ value.rolls-Arr xs in
      let here : IsTypedValue p (ty.Arr xs.elem) (value.Arr xs) = subst (λ u. IsTypedValue p (ty.Arr u) (value.Arr xs)) (sym same) (subst (IsTypedValue p (ty.Arr t)) ev array) in
      subst (λ u. IsTypedValue p u (indexed_at (Value-F.Arr xs) (pos k))) same (indexed_items xs here k (slice_get xs.items k) refl)
  indexed_level t a (Value-F.Num x) e k array is = absurd cc
  indexed_level t a (Value-F.Bool x) e k array is = absurd cc
  indexed_level t a (Value-F.Str x) e k array is = absurd cc
  indexed_level t a (Value-F.Cluster x) e k array is = absurd cc
  indexed_level t a (Value-F.Queue x) e k array is = absurd cc
  indexed_level t a (Value-F.Cell x) e k array is = absurd cc

  pub indexed_typed : (t : Ty) (a : Value) (k : ℕ) → IsTypedValue p (ty.Arr t) a → IsTypedValue p t (indexed_at (out-Value a) (pos k))
  indexed_typed t a k array = indexed_level t a (out-Value a) refl k array (sym (ap item_at (outs_type_of a)) ∙ ap item array.typed.of_type ∙ element-Arr t)

  pub replace_typed : (t u e : Ty) (a i v : Value) → IsTypedValue p (ty.Arr t) a → IsTypedValue p u i → is_num u ≡ true → IsTypedValue p e v → is_assignable e t ≡ true
      → IsTypedValue p (ty.Arr t) (replace a i v)
  replace_typed t u e a i v array index num is fits =
      (outputs_typed p op.Replace (ty.Arr t ∷ u ∷ e ∷ []) (ty.Arr t ∷ []) (a ∷ i ∷ v ∷ []) (array, (index, (is, tt))) (row_replace t u e num fits)).0

  pub get_typed : (k : ℕ) (c t : Ty) (v : Value) → IsTypedValue p c v → part k c ≡ Some t → IsTypedValue p t (get k v)
  get_typed k c t v is at = (outputs_typed p (op.Get k) (c ∷ []) (t ∷ []) (v ∷ []) (is, tt) (row_get k c t at)).0

  pub put_typed : (k : ℕ) (c t e : Ty) (v w : Value) → IsTypedValue p c v → part k c ≡ Some t → IsTypedValue p e w → is_assignable e t ≡ true → IsTypedValue p c (put k v w)
  put_typed k c t e v w is at new fits = (outputs_typed p (op.Set k) (c ∷ e ∷ []) (c ∷ []) (v ∷ w ∷ []) (is, (new, tt)) (row_put k c t e at fits)).0

  -- ---- arrays of what frames had

  within_typed : (t : Ty) (n : ℕ) (vs : List Value) → AllTyped p t vs → AllTyped p t (take n vs)
  within_typed t zero vs all = tt
  within_typed t (suc n) [] all = tt
  within_typed t (suc n) (v ∷ vs) all = (all.0, within_typed t n vs all.1)

  each_proper : (t : Ty) (vs : List Value) → AllTyped p t vs → All IsProper vs
  each_proper t [] all = All-nil IsProper
  each_proper t (v ∷ vs) all = All-cons IsProper v vs all.0.typed.proper (each_proper t vs all.1)

  each_of_type : (t : Ty) (vs : List Value) → AllTyped p t vs → All (λ v. type_of v ≡ t) vs
  each_of_type t [] all = All-nil (λ v. type_of v ≡ t)
  each_of_type t (v ∷ vs) all = All-cons (λ v. type_of v ≡ t) v vs all.0.typed.of_type (each_of_type t vs all.1)

  each_named : (t : Ty) (vs : List Value) → AllTyped p t vs → All (HoldsOnly (IsNamed p)) vs
  each_named t [] all = All-nil (HoldsOnly (IsNamed p))
  each_named t (v ∷ vs) all = All-cons (HoldsOnly (IsNamed p)) v vs all.0.named (each_named t vs all.1)

  elements_typed : (t : Ty) (vs : List Value) → is_num t ≡ false → length vs ≤ most → IsSpelled (ty.Arr t) → AllTyped p t vs
      → IsTypedValue p (ty.Arr t) (value.Arr (record { elem = t; items = vs }))
  elements_typed t vs n few s all =
      let xs : ArrOf Value = record { elem = t; items = vs } in
      record {
        typed = record {
          proper = proper_array xs (record { few = few; one_type = each_of_type t vs all; no_number = n; no_array = layer-Arr t s.whole }) (below t s) (spelled_item t s) (each_proper t vs all);
          of_type = type-Arr xs;
        };
        named = holds_items (IsNamed p) xs vs (each_named t vs all);
      }

  array_by : (t : Ty) (k : Ty-F Ty) (vs : List Value) → out-Ty t ≡ k → length vs ≤ most → IsSpelled (ty.Arr t) → AllTyped p t vs → IsTypedValue p (ty.Arr t) (array_of t k vs)
  array_by t (Ty-F.Num r) vs e few s all =
      let xs : Numbers = record { rep = r; all = map (λ v. wrap r (number_of v)) vs } in
      let long = length-map vs (λ v. wrap r (number_of v)) in
      record {
        typed = record { proper = proper_nums xs (omega arith); of_type = type-Nums xs ∙ ap ty.Arr (sym (ty.rolls-Num r) ∙ ap roll-Ty (sym e) ∙ roll-out-Ty t) };
        named = holds_none (IsNamed p) (value.Nums xs) (references-Nums xs);
      }
  array_by t Ty-F.Bool vs e few s all = elements_typed t vs (ap is_num_at e) few s all
  array_by t Ty-F.Str vs e few s all = elements_typed t vs (ap is_num_at e) few s all
  array_by t (Ty-F.Arr u) vs e few s all = elements_typed t vs (ap is_num_at e) few s all
  array_by t (Ty-F.Cluster us) vs e few s all = elements_typed t vs (ap is_num_at e) few s all
  array_by t (Ty-F.QueueRef u) vs e few s all = elements_typed t vs (ap is_num_at e) few s all
  array_by t (Ty-F.ValueRef u) vs e few s all = elements_typed t vs (ap is_num_at e) few s all

  pub array_typed : (t : Ty) (vs : List Value) → IsSpelled (ty.Arr t) → AllTyped p t vs → IsTypedValue p (ty.Arr t) (array_of t (out-Ty t) (within vs))
  array_typed t vs s all =
      let few = length-take most vs in
      array_by t (out-Ty t) (within vs) refl (omega arith) s (within_typed t most vs all)
