-- The types of a VI's wires are such as a listing can write: in the order of the steps in which they are decided.
use Rattle.std.proofs.Common.{◌≡◌, ◌≤◌, inl, inr, ⊎_elim, ℕ, zero, suc, ◌+◌, Bool, true, false, not, List, [], ◌∷◌, ◌++◌, map, Option, Some, None, refl, ap, sym, ◌∙◌, subst, arith}
use Rattle.std.specs.Prelude.{slice_get, if◌then◌else◌}
use Rattle.std.specs.List.{AllByRecursion, list_all}
use Rattle.std.specs.Str.{bytes_eq}
use Rattle.std.proofs.lemmas.List.Elements.{All-from_recursion, recursion_from_All}
use Rattle.g_types.specs.declared.rep.Rep.TheVariants.{I32}
use Rattle.g_types.specs.declared.ty.Ty.{Ty, out-Ty}
use Rattle.g_types.specs.declared.ty.Ty.TheOpen.{Ty-F}
use Rattle.g_types.specs.declared.ty.Ty.TheVariants as ty
use Rattle.g_types.specs.declared.ty.Ty.TheViews.{roll-Ty, roll-out-Ty}
use Rattle.g_types.specs.declared.ty.Ty.TheFolds.{map-Ty, every_held-Ty}
use Rattle.g_types.specs.Ty.{depth}
use Rattle.g_types.proofs.Depths.{depth-QueueRef, depth-ValueRef}
use Rattle.g_values.specs.declared.value.Value.{Value}
use Rattle.g_values.specs.declared.primitive.Primitive.{Primitive}
use Rattle.g_values.specs.Default.{default}
use Rattle.g_values.specs.Proper.{IsProper}
use Rattle.g_values.specs.Spelled.{IsSpelled, IsTypeLayer, IsWholeType, is_array}
use Rattle.g_values.specs.Value.{type_of}
use Rattle.g_values.proofs.DefaultValues.{type-default, proper-default}
use Rattle.g_values.proofs.SpelledTypes.{spelled_num, spelled_array, spelled_queue, spelled_cell, spelled_item, spelled_parts}
use Rattle.g_operations.specs.declared.shared.SharedOp.{SharedOp}
use Rattle.g_operations.specs.declared.shared.SharedOp.TheVariants as shared
use Rattle.g_prims_definitions.specs.Kinds.{part, part_of, parts_at, array_of}
use Rattle.g_prims_definitions.specs.Rows.{row_of, is_shallow, is_element}
use Rattle.g_prims_definitions.specs.Values.{outputs_of}
use Rattle.g_prims_laws.specs.Laws.{AreOfTypes}
use Rattle.g_prims_laws.proofs.RowOutputs.{gives_row}
use Rattle.g_diagram.specs.declared.place.Place.{Place}
use Rattle.g_diagram.specs.declared.node.Tunnel.{Tunnel}
use Rattle.g_diagram.specs.declared.node.Tunnel.TheVariants as line
use Rattle.g_diagram.specs.declared.panel.PanelItem.{PanelItem}
use Rattle.g_diagram.specs.declared.panel.PanelItem.TheVariants.{Control, Indicator}
use Rattle.g_diagram.specs.declared.hierarchy.Vi.{Vi}
use Rattle.g_diagram.specs.Lines.{Wire, Arm, Part, Entry, Kind, Const, Apply, Shows, Shared, Obtain, Read, Write, Call, Loop, Case, Sequence, InPlace, entries_of}
use Rattle.g_typing.specs.Types.{Types, place, both, wire_type, wire_types, wire_at, or_unwired, then_type, element, queued, queued_at, referred, whole}
use Rattle.g_typing.specs.Rows.{unless, fits_shared, line_misses, lines_miss, stop_operand, kind_misses}
use Rattle.g_types.specs.Ty.{is_num}
use Rattle.g_prims_definitions.specs.Kinds.{is_bool}
use Rattle.g_typing.specs.Typing.{Given, Callees, Objects, IsGivenTo, IsTyping, given, given_each, kept_if, all_kept_if, row_after, with_code, shared_types, shared_after, carried, line_inside, line_outside, lines_inside, lines_outside, type_or_next, result_type, result_given, next_result, panel_type, indicator_types, called_panel, controls_given}
use Rattle.g_typing.proofs.Unique.{Step, HaveGiven}
use Rattle.g_typing.proofs.Local.{carry_reads, inside_reads, all_inside_reads, outside_reads, all_outside_reads, at_diagram, result_reads, kind_reads}
use Rattle.g_typing.proofs.Steps.{ok_at, arms_steps, one_result_reads, results_steps, parts_steps, kind_steps}
use Rattle.g_typing.proofs.Only as only
use Rattle.g_typing.proofs.Only.{vi_steps, entries_steps, vi_gives, typing_holds, holds_in}
use Rattle.g_typing.proofs.Roles.{nothing, IsRead}
use Rattle.g_typing.proofs.NodeRoles.{in_append}
use Rattle.g_typing.proofs.Names.{Giver, NoGiver, find_giver, vi_named, named_in, same_given}
use Rattle.g_typing.proofs.Ready.{Ready, ready}
use Rattle.g_typing.proofs.Agreed.{none_given, Typed}
use Rattle.g_infer_laws.specs.OwnLines.{is_case_line, is_frame_line, have_frame_lines, has_own_lines}
use Rattle.std.proofs.lemmas.Bool.{false≢true}
use Rattle.g_listing_laws.specs.Spelled.{IsItemSpelled, IsKindSpelled, IsLineSpelled}
use Rattle.g_accepted.proofs.Facts.{IsIn, all_both, all_left, all_right, nil_left, nil_right, and_first, and_second, some_same, none_some}
use Rattle.g_accepted.proofs.Nodes.{passed, kind_is, shallow_depth, array_type, reference_type}

-- ---- what a reference names

abbrev WholeTypes : Type 0
WholeTypes = (t : Ty) × IsWholeType t

held_queue : (y : Ty-F WholeTypes) (t : Ty) → map-Ty WholeTypes Ty (λ p. p.0) y ≡ Ty-F.QueueRef t → IsWholeType t
held_queue (Ty-F.QueueRef q) t e = let m : q.0 ≡ t = cc in subst IsWholeType m q.1
held_queue (Ty-F.Num r) t e = absurd cc
held_queue Ty-F.Bool t e = absurd cc
held_queue Ty-F.Str t e = absurd cc
held_queue (Ty-F.Arr q) t e = absurd cc
held_queue (Ty-F.Cluster qs) t e = absurd cc
held_queue (Ty-F.ValueRef q) t e = absurd cc

held_cell : (y : Ty-F WholeTypes) (t : Ty) → map-Ty WholeTypes Ty (λ p. p.0) y ≡ Ty-F.ValueRef t → IsWholeType t
held_cell (Ty-F.ValueRef q) t e = let m : q.0 ≡ t = cc in subst IsWholeType m q.1
held_cell (Ty-F.Num r) t e = absurd cc
held_cell Ty-F.Bool t e = absurd cc
held_cell Ty-F.Str t e = absurd cc
held_cell (Ty-F.Arr q) t e = absurd cc
held_cell (Ty-F.Cluster qs) t e = absurd cc
held_cell (Ty-F.QueueRef q) t e = absurd cc

pub spelled_of_queue : (t : Ty) → IsSpelled (ty.QueueRef t) → IsSpelled t
spelled_of_queue t s =
    let h = every_held-Ty IsTypeLayer (ty.QueueRef t) s.whole in
    let d = depth-QueueRef t in
    let few = s.shallow in
    record { whole = held_queue h.0 t (h.1 ∙ ty.outs-QueueRef t); shallow = omega (arith, d, few) }

pub spelled_of_cell : (t : Ty) → IsSpelled (ty.ValueRef t) → IsSpelled t
spelled_of_cell t s =
    let h = every_held-Ty IsTypeLayer (ty.ValueRef t) s.whole in
    let d = depth-ValueRef t in
    let few = s.shallow in
    record { whole = held_cell h.0 t (h.1 ∙ ty.outs-ValueRef t); shallow = omega (arith, d, few) }

queue_type : (t u : Ty) → queued t ≡ Some u → t ≡ ty.QueueRef u
queue_type t u e = by (out-Ty t) refl e
  where
    by : (k : Ty-F Ty) → out-Ty t ≡ k → queued_at k ≡ Some u → t ≡ ty.QueueRef u
    by (Ty-F.QueueRef a) is e = sym (roll-out-Ty t) ∙ ap roll-Ty is ∙ ty.rolls-QueueRef a ∙ ap ty.QueueRef (some_same a u e)
    by (Ty-F.Num r) is e = absurd (cc e)
    by Ty-F.Bool is e = absurd (cc e)
    by Ty-F.Str is e = absurd (cc e)
    by (Ty-F.Arr a) is e = absurd (cc e)
    by (Ty-F.Cluster ts) is e = absurd (cc e)
    by (Ty-F.ValueRef a) is e = absurd (cc e)

cluster_type : (t : Ty) (ts : List Ty) → parts_at (out-Ty t) ≡ Some ts → t ≡ ty.Cluster ts
cluster_type t ts e = by (out-Ty t) refl e
  where
    by : (k : Ty-F Ty) → out-Ty t ≡ k → parts_at k ≡ Some ts → t ≡ ty.Cluster ts
    by (Ty-F.Cluster us) is e = sym (roll-out-Ty t) ∙ ap roll-Ty is ∙ ty.rolls-Cluster us ∙ ap ty.Cluster (some_same us ts e)
    by (Ty-F.Num r) is e = absurd (cc e)
    by Ty-F.Bool is e = absurd (cc e)
    by Ty-F.Str is e = absurd (cc e)
    by (Ty-F.Arr a) is e = absurd (cc e)
    by (Ty-F.QueueRef a) is e = absurd (cc e)
    by (Ty-F.ValueRef a) is e = absurd (cc e)

-- ---- types that are known are spelled

abbrev pub IsOk : Option Ty → Type 0
IsOk o = (t : Ty) → o ≡ Some t → IsSpelled t

abbrev GivesOk : Given → Type 0
GivesOk g = IsOk g.type

none_ok : IsOk None
none_ok t e = absurd (none_some t e)

some_ok : (t : Ty) → IsSpelled t → IsOk (Some t)
some_ok t s u e = subst IsSpelled (some_same t u e) s

one_ok : (d : ℕ) (w : Wire) (o : Option Ty) → IsOk o → AllByRecursion GivesOk (given d w o)
one_ok d None o h = tt
one_ok d (Some n) o h = (h, tt)

each_ok : (d : ℕ) (ws : List Wire) (ts : List Ty) → AllByRecursion IsSpelled ts → AllByRecursion GivesOk (given_each d ws ts)
each_ok d [] ts h = tt
each_ok d (w ∷ ws) [] h = all_both GivesOk (given d w None) (given_each d ws []) (one_ok d w None none_ok) (each_ok d ws [] tt)
each_ok d (w ∷ ws) (t ∷ ts) h = all_both GivesOk (given d w (Some t)) (given_each d ws ts) (one_ok d w (Some t) (some_ok t h.0)) (each_ok d ws ts h.1)

kept_ok : (b : Bool) (o : Option Ty) → IsOk o → IsOk (kept_if b o)
kept_ok true o h = h
kept_ok false o h = none_ok

then_ok : (o : Option Ty) (f : Ty → Option Ty) → IsOk o → ((t u : Ty) → IsSpelled t → f t ≡ Some u → IsSpelled u) → IsOk (then_type o f)
then_ok None f h g u e = absurd (none_some u e)
then_ok (Some t) f h g u e = g t u (h t refl) e

element_ok : (t u : Ty) → IsSpelled t → element t ≡ Some u → IsSpelled u
element_ok t u s e = spelled_item u (subst IsSpelled (array_type t u e) s)

referred_ok : (t u : Ty) → IsSpelled t → referred t ≡ Some u → IsSpelled u
referred_ok t u s e = spelled_of_cell u (subst IsSpelled (reference_type t u e) s)

queued_ok : (t u : Ty) → IsSpelled t → queued t ≡ Some u → IsSpelled u
queued_ok t u s e = spelled_of_queue u (subst IsSpelled (queue_type t u e) s)

at_ok : (ts : List Ty) (k : ℕ) (u : Ty) → AllByRecursion IsSpelled ts → slice_get ts k ≡ Some u → IsSpelled u
at_ok [] k u h e = absurd (none_some u e)
at_ok (t ∷ ts) zero u h e = subst IsSpelled (some_same t u e) h.0
at_ok (t ∷ ts) (suc k) u h e = at_ok ts k u h.1 e

part_ok : (k : ℕ) (t u : Ty) → IsSpelled t → part k t ≡ Some u → IsSpelled u
part_ok k t u s e = by (parts_at (out-Ty t)) refl e
  where
    by : (o : Option (List Ty)) → parts_at (out-Ty t) ≡ o → part_of k o ≡ Some u → IsSpelled u
    by None is e = absurd (none_some u e)
    by (Some ts) is e = at_ok ts k u (recursion_from_All IsSpelled ts (spelled_parts ts (subst IsSpelled (cluster_type t ts is) s))) e

whole_ok : IsSpelled whole
whole_ok = spelled_num I32

array_ok : (o : Option Ty) (p : Place) → IsOk o → unless o is_element p ≡ [] → IsOk (array_of o)
array_ok None p h none = none_ok
array_ok (Some t) p h none =
    let e : is_element t ≡ true = kind_is (Some t) t is_element p refl none in
    let le : depth t ≤ 7 = shallow_depth t (and_second _ (is_shallow t) e) in
    some_ok (ty.Arr t) (spelled_array t (negated (is_array t) (and_first _ (is_shallow t) e)) (omega (arith, le)) (h t refl))
  where
    negated : (b : Bool) → not b ≡ true → b ≡ false
    negated true e = absurd (cc e)
    negated false e = refl

-- ---- rows

defaults_proper : (ts : List Ty) → AllByRecursion IsSpelled ts → AllByRecursion IsProper (map default ts)
defaults_proper [] h = tt
defaults_proper (t ∷ ts) h = (proper-default t h.0, defaults_proper ts h.1)

defaults_typed : (ts : List Ty) → map type_of (map default ts) ≡ ts
defaults_typed [] = refl
defaults_typed (t ∷ ts) = ap (λ u. u ∷ map type_of (map default ts)) (type-default t) ∙ ap (λ us. t ∷ us) (defaults_typed ts)

proper_types : (vs : List Value) → AllByRecursion IsProper vs → AllByRecursion IsSpelled (map type_of vs)
proper_types [] h = tt
proper_types (v ∷ vs) h = (h.0.spelled, proper_types vs h.1)

-- a row gives such types for such types: it does for their defaults
row_ok : (p : Primitive) (ts us : List Ty) → AllByRecursion IsSpelled ts → row_of p ts ≡ Some us → AllByRecursion IsSpelled us
row_ok p ts us h e =
    let vs : List Value = map default ts in
    let a : AreOfTypes us (outputs_of p vs) = gives_row p vs us (All-from_recursion IsProper vs (defaults_proper ts h)) (ap (row_of p) (defaults_typed ts) ∙ e) in
    subst (λ (xs : List Ty). AllByRecursion IsSpelled xs) a.of_types (proper_types (outputs_of p vs) (recursion_from_All IsProper (outputs_of p vs) a.proper))

list_ok : (ok : Bool) (o : Option (List Ty)) → ((us : List Ty) → o ≡ Some us → AllByRecursion IsSpelled us) → AllByRecursion IsSpelled (all_kept_if ok o)
list_ok true None h = tt
list_ok true (Some us) h = h us refl
list_ok false o h = tt

module _ (M : Types) where
  abbrev ReadOk : ℕ × Wire → Type 0
  ReadOk q = IsOk (wire_type M q.0 q.1)

  wires_ok : (d : ℕ) (ws : List Wire) → AllByRecursion ReadOk (at_diagram d ws) → (ts : List Ty) → wire_types M d ws ≡ Some ts → AllByRecursion IsSpelled ts
  wires_ok d [] h ts e = subst (λ (us : List Ty). AllByRecursion IsSpelled us) (some_same [] ts e) tt
  wires_ok d (w ∷ ws) h ts e = by (wire_type M d w) (wire_types M d ws) refl refl e (wires_ok d ws h.1)
    where
      by : (o : Option Ty) (os : Option (List Ty)) → wire_type M d w ≡ o → wire_types M d ws ≡ os → both o os ≡ Some ts → ((us : List Ty) → wire_types M d ws ≡ Some us → AllByRecursion IsSpelled us) → AllByRecursion IsSpelled ts
      by None os is are e more = absurd (none_some ts e)
      by (Some t) None is are e more = absurd (none_some ts e)
      by (Some t) (Some us) is are e more = subst (λ (xs : List Ty). AllByRecursion IsSpelled xs) (some_same (t ∷ us) ts e) (h.0 t is, more us are)

  row_after_ok : (p : Primitive) (o : Option (List Ty)) → ((ts : List Ty) → o ≡ Some ts → AllByRecursion IsSpelled ts) → (us : List Ty) → row_after p o ≡ Some us → AllByRecursion IsSpelled us
  row_after_ok p None h us e = absurd (none_some us e)
  row_after_ok p (Some ts) h us e = row_ok p ts us (h ts refl) e

  with_code_ok : (o : Option Ty) → IsOk o → (us : List Ty) → with_code o ≡ Some us → AllByRecursion IsSpelled us
  with_code_ok None h us e = absurd (none_some us e)
  with_code_ok (Some t) h us e = subst (λ (xs : List Ty). AllByRecursion IsSpelled xs) (some_same (t ∷ whole ∷ []) us e) (h t refl, (whole_ok, tt))

  shared_ok : (op : SharedOp) (t : Ty) → IsSpelled t → fits_shared op t ≡ true → (us : List Ty) → shared_types op t ≡ Some us → AllByRecursion IsSpelled us
  shared_ok shared.Enqueue t s may us e = subst (λ (xs : List Ty). AllByRecursion IsSpelled xs) (some_same (whole ∷ []) us e) (whole_ok, tt)
  shared_ok shared.Dequeue t s may us e = with_code_ok (queued t) (λ u q. queued_ok t u s q) us e
  shared_ok shared.Release t s may us e = subst (λ (xs : List Ty). AllByRecursion IsSpelled xs) (some_same (whole ∷ []) us e) (whole_ok, tt)
  shared_ok shared.Size t s may us e = subst (λ (xs : List Ty). AllByRecursion IsSpelled xs) (some_same (whole ∷ whole ∷ []) us e) (whole_ok, (whole_ok, tt))
  shared_ok shared.NewRef t s may us e =
      let le : depth t ≤ 7 = shallow_depth t may in
      subst (λ (xs : List Ty). AllByRecursion IsSpelled xs) (some_same (ty.ValueRef t ∷ []) us e) (spelled_cell t (omega (arith, le)) s, tt)
  shared_ok shared.DelRef t s may us e = with_code_ok (referred t) (λ u q. referred_ok t u s q) us e

  shared_after_ok : (op : SharedOp) (o : Option Ty) (p : Place) → IsOk o → unless o (fits_shared op) p ≡ [] → (us : List Ty) → shared_after op o ≡ Some us → AllByRecursion IsSpelled us
  shared_after_ok op None p h none us e = absurd (none_some us e)
  shared_after_ok op (Some t) p h none us e = shared_ok op t (h t refl) (kind_is (Some t) t (fits_shared op) p refl none) us e

  -- ---- border lines

  carried_ok : (before : Option ℕ) (w : Wire) → AllByRecursion ReadOk (carry_reads before w) → IsOk (carried M before w)
  carried_ok None w h = none_ok
  carried_ok (Some b) w h = h.0

  inside_ok : (d b : ℕ) (before : Option ℕ) (t : Tunnel) → IsLineSpelled t → AllByRecursion ReadOk (inside_reads d before t) → AllByRecursion GivesOk (line_inside M d b before t)
  inside_ok d b before (line.Tunnel outer inner) s h = one_ok b inner (wire_type M d outer) h.0
  inside_ok d b before (line.Register initial inner next last) s h = one_ok b inner (wire_type M d initial) h.0
  inside_ok d b before (line.Kept t inner next last) s h = one_ok b inner (Some t) (some_ok t s)
  inside_ok d b before (line.Last inner outer) s h = tt
  inside_ok d b before (line.Gather inner outer) s h = tt
  inside_ok d b before (line.Index array inner) s h = one_ok b inner (then_type (wire_type M d array) element) (then_ok (wire_type M d array) element h.0 element_ok)
  inside_ok d b before (line.Result outer default) s h = tt
  inside_ok d b before (line.Carry earlier inner) s h = one_ok b inner (carried M before earlier) (carried_ok before earlier h)
  inside_ok d b before (line.Ref reference inner next same code) s h = one_ok b inner (then_type (wire_type M d reference) referred) (then_ok (wire_type M d reference) referred h.0 referred_ok)
  inside_ok d b before (line.Element array index inner next outer) s h = one_ok b inner (then_type (wire_type M d array) element) (then_ok (wire_type M d array) element h.0 element_ok)
  inside_ok d b before (line.Field k cluster inner next outer) s h = one_ok b inner (then_type (wire_type M d cluster) (part k)) (then_ok (wire_type M d cluster) (part k) h.0 (part_ok k))

  all_inside_ok : (d b : ℕ) (before : Option ℕ) (ts : List Tunnel) → AllByRecursion IsLineSpelled ts → AllByRecursion ReadOk (all_inside_reads d before ts) → AllByRecursion GivesOk (lines_inside M d b before ts)
  all_inside_ok d b before [] s h = tt
  all_inside_ok d b before (t ∷ ts) s h =
      all_both GivesOk (line_inside M d b before t) (lines_inside M d b before ts) (inside_ok d b before t s.0 (all_left ReadOk (inside_reads d before t) (all_inside_reads d before ts) h))
      (all_inside_ok d b before ts s.1 (all_right ReadOk (inside_reads d before t) (all_inside_reads d before ts) h))

  outside_ok : (v l : ℕ) (ok : Bool) (d b : ℕ) (t : Tunnel) → IsLineSpelled t → line_misses M v d b l t ≡ [] → AllByRecursion ReadOk (outside_reads d b t) → AllByRecursion GivesOk (line_outside M ok d b t)
  outside_ok v l ok d b (line.Last inner outer) s none h = one_ok d outer _ (kept_ok ok (wire_type M b inner) h.0)
  outside_ok v l ok d b (line.Gather inner outer) s none h = one_ok d outer _ (kept_ok ok (array_of (wire_type M b inner)) (array_ok (wire_type M b inner) (place v l 1) h.0 none))
  outside_ok v l ok d b (line.Register initial inner next last) s none h = one_ok d last _ (kept_ok ok (wire_type M d initial) h.0)
  outside_ok v l ok d b (line.Kept t inner next last) s none h = one_ok d last _ (kept_ok ok (Some t) (some_ok t s))
  outside_ok v l ok d b (line.Ref reference inner next same code) s none h =
      all_both GivesOk (given d same (kept_if ok (wire_type M d reference))) (given d code (kept_if ok (then_type (wire_type M d reference) (λ t. Some whole))))
      (one_ok d same _ (kept_ok ok (wire_type M d reference) h.0))
      (one_ok d code _ (kept_ok ok (then_type (wire_type M d reference) (λ t. Some whole)) (then_ok (wire_type M d reference) (λ t. Some whole) h.0 (λ t u g e. subst IsSpelled (some_same whole u e) whole_ok))))
  outside_ok v l ok d b (line.Element array index inner next outer) s none h = one_ok d outer _ (kept_ok ok (wire_type M d array) h.0)
  outside_ok v l ok d b (line.Field k cluster inner next outer) s none h = one_ok d outer _ (kept_ok ok (wire_type M d cluster) h.0)
  outside_ok v l ok d b (line.Tunnel outer inner) s none h = tt
  outside_ok v l ok d b (line.Index array inner) s none h = tt
  outside_ok v l ok d b (line.Result outer default) s none h = tt
  outside_ok v l ok d b (line.Carry before inner) s none h = tt

  all_outside_ok : (v l : ℕ) (ok : Bool) (d b : ℕ) (ts : List Tunnel) → AllByRecursion IsLineSpelled ts → lines_miss M v d b l ts ≡ [] → AllByRecursion ReadOk (all_outside_reads d b ts)
      → AllByRecursion GivesOk (lines_outside M ok d b ts)
  all_outside_ok v l ok d b [] s none h = tt
  all_outside_ok v l ok d b (t ∷ ts) s none h =
      all_both GivesOk (line_outside M ok d b t) (lines_outside M ok d b ts)
      (outside_ok v l ok d b t s.0 (nil_left (line_misses M v d b l t) (lines_miss M v d b (l + 1) ts) none) (all_left ReadOk (outside_reads d b t) (all_outside_reads d b ts) h))
      (all_outside_ok v (l + 1) ok d b ts s.1 (nil_right (line_misses M v d b l t) (lines_miss M v d b (l + 1) ts) none) (all_right ReadOk (outside_reads d b t) (all_outside_reads d b ts) h))

  -- ---- cases

  next_ok : (b : ℕ) (w : Wire) (rest : Option Ty) → IsOk (wire_type M b w) → IsOk rest → IsOk (type_or_next M b w rest)
  next_ok b None rest h g = g
  next_ok b (Some n) rest h g = h

  result_ok : (k : ℕ) (arms : List Arm) → AllByRecursion ReadOk (result_reads k arms) → IsOk (result_type M k arms)
  result_ok k [] h = none_ok
  result_ok k (arm ∷ arms) h = next_ok arm.body (wire_at arm.gives k) (result_type M k arms) h.0 (result_ok k arms h.1)

  one_result_ok : (d k : ℕ) (arms : List Arm) (t : Tunnel) → AllByRecursion ReadOk (one_result_reads k arms t) → AllByRecursion GivesOk (result_given M d k arms t)
  one_result_ok d k arms (line.Result outer default) h = one_ok d outer (result_type M k arms) (result_ok k arms h)
  one_result_ok d k arms (line.Tunnel outer inner) h = tt
  one_result_ok d k arms (line.Register initial inner next last) h = tt
  one_result_ok d k arms (line.Kept t inner next last) h = tt
  one_result_ok d k arms (line.Last inner outer) h = tt
  one_result_ok d k arms (line.Gather inner outer) h = tt
  one_result_ok d k arms (line.Index array inner) h = tt
  one_result_ok d k arms (line.Carry earlier inner) h = tt
  one_result_ok d k arms (line.Ref reference inner next same code) h = tt
  one_result_ok d k arms (line.Element array index inner next outer) h = tt
  one_result_ok d k arms (line.Field f cluster inner next outer) h = tt

  -- a step gives such types where it reads such types
  abbrev StepOk : Step → Type 0
  StepOk s = AllByRecursion ReadOk s.reads → AllByRecursion GivesOk (s.gives M)

  arms_ok : (d : ℕ) (ts : List Tunnel) (arms : List Arm) → AllByRecursion IsLineSpelled ts → (s : Step) → only.IsIn s (arms_steps d ts arms) → StepOk s
  arms_ok d ts [] sp s is = absurd is
  arms_ok d ts (arm ∷ arms) sp s (inl same) = subst StepOk same (λ h. all_inside_ok d arm.body None ts sp h)
  arms_ok d ts (arm ∷ arms) sp s (inr is) = arms_ok d ts arms sp s is

  results_ok : (d k : ℕ) (arms : List Arm) (ts : List Tunnel) (s : Step) → only.IsIn s (results_steps d k arms ts) → StepOk s
  results_ok d k arms [] s is = absurd is
  results_ok d k arms (t ∷ ts) s (inl same) = subst StepOk same (λ h. one_result_ok d k arms t h)
  results_ok d k arms (t ∷ ts) s (inr is) = results_ok d (next_result t k) arms ts s is

  case_spelled : (ts : List Tunnel) → list_all is_case_line ts ≡ true → AllByRecursion IsLineSpelled ts
  case_spelled [] own = tt
  case_spelled (line.Tunnel outer inner ∷ ts) own = (tt, case_spelled ts own)
  case_spelled (line.Result outer default ∷ ts) own = (tt, case_spelled ts own)
  case_spelled (_ ∷ ts) own = absurd (false≢true own)

  frame_spelled : (is_first : Bool) (ts : List Tunnel) → list_all (is_frame_line is_first) ts ≡ true → AllByRecursion IsLineSpelled ts
  frame_spelled b [] own = tt
  frame_spelled b (line.Tunnel outer inner ∷ ts) own = (tt, frame_spelled b ts own)
  frame_spelled b (line.Last inner outer ∷ ts) own = (tt, frame_spelled b ts own)
  frame_spelled b (line.Carry earlier inner ∷ ts) own = (tt, frame_spelled b ts (and_second (not b) (list_all (is_frame_line b) ts) own))
  frame_spelled b (_ ∷ ts) own = absurd (false≢true own)

  frame_misses : (is_first : Bool) (d b l : ℕ) (ts : List Tunnel) → list_all (is_frame_line is_first) ts ≡ true → lines_miss M 0 d b l ts ≡ []
  frame_misses f d b l [] own = refl
  frame_misses f d b l (line.Tunnel outer inner ∷ ts) own = frame_misses f d b (l + 1) ts own
  frame_misses f d b l (line.Last inner outer ∷ ts) own = frame_misses f d b (l + 1) ts own
  frame_misses f d b l (line.Carry earlier inner ∷ ts) own = frame_misses f d b (l + 1) ts (and_second (not f) (list_all (is_frame_line f) ts) own)
  frame_misses f d b l (_ ∷ ts) own = absurd (false≢true own)

  parts_ok : (is_first : Bool) (d : ℕ) (before : Option ℕ) (ps : List Part) → have_frame_lines is_first ps ≡ true → (s : Step) → only.IsIn s (parts_steps d before ps) → StepOk s
  parts_ok f d before [] own s is = absurd is
  parts_ok f d before (p ∷ ps) own s (inl same) =
      subst StepOk same (λ h. all_inside_ok d p.body before p.lines (frame_spelled f p.lines (and_first (list_all (is_frame_line f) p.lines) (have_frame_lines false ps) own)) h)
  parts_ok f d before (p ∷ ps) own s (inr (inl same)) =
      let lines_own : list_all (is_frame_line f) p.lines ≡ true = and_first (list_all (is_frame_line f) p.lines) (have_frame_lines false ps) own in
      subst StepOk same (λ h. all_outside_ok 0 0 true d p.body p.lines (frame_spelled f p.lines lines_own) (frame_misses f d p.body 0 p.lines lines_own) h)
  parts_ok f d before (p ∷ ps) own s (inr (inr is)) = parts_ok false d (Some p.body) ps (and_second (list_all (is_frame_line f) p.lines) (have_frame_lines false ps) own) s is

  -- the steps of a node
  kind_ok : (called : Callees) (objects : Objects) (v l d : ℕ) (k : Kind) → ((n : List ℕ) → IsOk (objects n)) → ((n : List ℕ) → AllByRecursion IsSpelled (indicator_types (called n))) → IsKindSpelled k
      → has_own_lines k ≡ true → kind_misses M v l d k ≡ [] → (s : Step) → only.IsIn s (kind_steps called objects l d k) → StepOk s
  kind_ok called objects v l d (Const t literal out) os cs sp own none s (inl same) = subst StepOk same (λ h. one_ok d out (Some t) (some_ok t sp))
  kind_ok called objects v l d (Const t literal out) os cs sp own none s (inr is) = absurd is
  kind_ok called objects v l d (Apply p ins outs) os cs sp own none s (inl same) =
      subst StepOk same (λ h. each_ok d outs _ (list_ok (ok_at M l d (Apply p ins outs)) (row_after p (wire_types M d ins)) (row_after_ok p (wire_types M d ins) (wires_ok d ins h))))
  kind_ok called objects v l d (Apply p ins outs) os cs sp own none s (inr is) = absurd is
  kind_ok called objects v l d (Shows name t w) os cs sp own none s is = absurd is
  kind_ok called objects v l d (Shared op ins outs) os cs sp own none s (inl same) =
      subst StepOk same
      (λ h. each_ok d outs _ (list_ok (ok_at M l d (Shared op ins outs)) (shared_after op (wire_type M d (wire_at ins 0))) (shared_after_ok op (wire_type M d (wire_at ins 0)) (place v l 1) h.0 none)))
  kind_ok called objects v l d (Shared op ins outs) os cs sp own none s (inr is) = absurd is
  kind_ok called objects v l d (Obtain queue size item out) os cs sp own none s (inl same) =
      let le : depth item ≤ 7 = shallow_depth item (passed (is_shallow item) (place v l 0) none) in
      let f : IsSpelled (ty.QueueRef item) = spelled_queue item (omega (arith, le)) sp.1 in
      subst StepOk same (λ h. one_ok d out _ (kept_ok (ok_at M l d (Obtain queue size item out)) (Some (ty.QueueRef item)) (some_ok (ty.QueueRef item) f)))
  kind_ok called objects v l d (Obtain queue size item out) os cs sp own none s (inr is) = absurd is
  kind_ok called objects v l d (Read object out) os cs sp own none s (inl same) = subst StepOk same (λ h. one_ok d out (objects object) (os object))
  kind_ok called objects v l d (Read object out) os cs sp own none s (inr is) = absurd is
  kind_ok called objects v l d (Write object w) os cs sp own none s is = absurd is
  kind_ok called objects v l d (Call name ins outs) os cs sp own none s (inl same) = subst StepOk same (λ h. each_ok d outs (indicator_types (called name)) (cs name))
  kind_ok called objects v l d (Call name ins outs) os cs sp own none s (inr is) = absurd is
  kind_ok called objects v l d (Loop count stop i ts body) os cs sp own none s (inl same) = subst StepOk same (λ h. one_ok body i (Some whole) (some_ok whole whole_ok))
  kind_ok called objects v l d (Loop count stop i ts body) os cs sp own none s (inr (inl same)) =
      subst StepOk same (λ h. all_inside_ok d body None ts (recursion_from_All IsLineSpelled ts sp) h)
  kind_ok called objects v l d (Loop count stop i ts body) os cs sp own none s (inr (inr (inl same))) =
      let counts : List Place = unless (wire_type M d (or_unwired count)) is_num (place v l 1) in
      let stops : List Place = unless (wire_type M body (or_unwired stop)) is_bool (place v l (stop_operand count)) in
      let misses : List Place = lines_miss M v d body (l + 1) ts in
      subst StepOk same
      (λ h. all_outside_ok v (l + 1) (ok_at M l d (Loop count stop i ts body)) d body ts (recursion_from_All IsLineSpelled ts sp) (nil_right stops misses (nil_right counts (stops ++ misses) none))
      (all_right ReadOk (kind_reads d (Loop count stop i ts body)) (all_outside_reads d body ts) h))
  kind_ok called objects v l d (Loop count stop i ts body) os cs sp own none s (inr (inr (inr is))) = absurd is
  kind_ok called objects v l d (Case selector ts arms) os cs sp own none s is =
      ⊎_elim (arms_ok d ts arms (case_spelled ts own) s) (results_ok d 0 arms ts s) (in_append s (arms_steps d ts arms) (results_steps d 0 arms ts) is)
  kind_ok called objects v l d (Sequence parts) os cs sp own none s is = parts_ok true d None parts own s is
  kind_ok called objects v l d (InPlace ts body finish) os cs sp own none s (inl same) = subst StepOk same (λ h. all_inside_ok d body None ts (recursion_from_All IsLineSpelled ts sp) h)
  kind_ok called objects v l d (InPlace ts body finish) os cs sp own none s (inr (inl same)) =
      subst StepOk same
      (λ h. all_outside_ok v (l + 1) (ok_at M l d (InPlace ts body finish)) d body ts (recursion_from_All IsLineSpelled ts sp) none
      (all_right ReadOk (kind_reads d (InPlace ts body finish)) (all_outside_reads d body ts) h))
  kind_ok called objects v l d (InPlace ts body finish) os cs sp own none s (inr (inr is)) = absurd is

-- ---- panels

controls_ok : (items : List PanelItem) → AllByRecursion IsItemSpelled items → AllByRecursion GivesOk (controls_given items)
controls_ok [] h = tt
controls_ok (Control name t required default out ∷ items) h = all_both GivesOk (given 0 out (Some t)) (controls_given items) (one_ok 0 out (Some t) (some_ok t h.0)) (controls_ok items h.1)
controls_ok (Indicator name t w ∷ items) h = controls_ok items h.1

pub object_ok : (items : List PanelItem) → AllByRecursion IsItemSpelled items → (n : List ℕ) → IsOk (panel_type items n)
object_ok [] h n = none_ok
object_ok (Control name t required default out ∷ items) h n = by (bytes_eq name n) (object_ok items h.1 n)
  where
    by : (b : Bool) → IsOk (panel_type items n) → IsOk (if b then Some t else panel_type items n)
    by true more = some_ok t h.0
    by false more = more
object_ok (Indicator name t w ∷ items) h n = by (bytes_eq name n) (object_ok items h.1 n)
  where
    by : (b : Bool) → IsOk (panel_type items n) → IsOk (if b then Some t else panel_type items n)
    by true more = some_ok t h.0
    by false more = more

pub indicators_ok : (items : List PanelItem) → AllByRecursion IsItemSpelled items → AllByRecursion IsSpelled (indicator_types items)
indicators_ok [] h = tt
indicators_ok (Control name t required default out ∷ items) h = indicators_ok items h.1
indicators_ok (Indicator name t w ∷ items) h = (h.0, indicators_ok items h.1)

-- ---- a VI

given_name : (M : Types) (gs : List Given) (d : ℕ) (n : List ℕ) → HaveGiven M gs → AllByRecursion GivesOk gs → IsGivenTo gs d n → IsOk (M d n)
given_name M [] d n have ok is = absurd is
given_name M (g ∷ gs) d n have ok (inl is) =
    let at : M g.diagram g.name ≡ M d n = ap (λ x. M x g.name) is.0 ∙ ap (M d) is.1 in
    λ t e. ok.0 t (sym have.0 ∙ at ∙ e)
given_name M (g ∷ gs) d n have ok (inr is) = given_name M gs d n have.1 ok.1 is

all_read : (M : Types) (qs : List (ℕ × Wire)) → ((d : ℕ) (n : List ℕ) → IsRead qs d n → IsOk (M d n)) → AllByRecursion (ReadOk M) qs
all_read M [] h = tt
all_read M ((d, None) ∷ qs) h = (none_ok, all_read M qs (λ e n r. h e n (inr r)))
all_read M ((d, Some m) ∷ qs) h = (h d m (inl (refl, refl)), all_read M qs (λ e n r. h e n (inr r)))

-- the nodes of a VI have what their steps want
pub record NodesOk (vis : List Vi) (vi : Vi) (M : Types) (v : ℕ) : Type 0 where
  pub panel : AllByRecursion IsItemSpelled vi.panel
  pub called : (n : List ℕ) → AllByRecursion IsSpelled (indicator_types (called_panel vis n))
  pub spelled : (e : Entry) → IsIn e (entries_of vi) → IsKindSpelled e.kind
  pub own : (e : Entry) → IsIn e (entries_of vi) → has_own_lines e.kind ≡ true
  pub rows : (e : Entry) → IsIn e (entries_of vi) → kind_misses M v e.line e.diagram e.kind ≡ []

module _ (vis : List Vi) (vi : Vi) (M : Types) (v : ℕ) (nodes : NodesOk vis vi M v) (typing : IsTyping vis vi M) where
  abbrev all : List Step
  all = vi_steps (called_panel vis) vi.panel (entries_of vi)

  entries_ok : (es : List Entry) → ((e : Entry) → IsIn e es → IsIn e (entries_of vi)) → (s : Step) → only.IsIn s (entries_steps (called_panel vis) (panel_type vi.panel) es) → StepOk M s
  entries_ok [] sub s is = absurd is
  entries_ok (e ∷ es) sub s is =
      ⊎_elim
      (λ here. kind_ok M (called_panel vis) (panel_type vi.panel) v e.line e.diagram e.kind (object_ok vi.panel nodes.panel) nodes.called (nodes.spelled e (sub e (inl refl))) (nodes.own e (sub e (inl refl)))
      (nodes.rows e (sub e (inl refl))) s here)
      (λ more. entries_ok es (λ x i. sub x (inr i)) s more)
      (in_append s (kind_steps (called_panel vis) (panel_type vi.panel) e.line e.diagram e.kind) (entries_steps (called_panel vis) (panel_type vi.panel) es) is)

  step_ok : (s : Step) → only.IsIn s all → StepOk M s
  step_ok s (inl same) = subst (StepOk M) same (λ h. controls_ok vi.panel nodes.panel)
  step_ok s (inr is) = entries_ok (entries_of vi) (λ e i. i) s is

  whole_typing : Typed (called_panel vis) vi.panel (entries_of vi) M
  whole_typing = record { given = typing.given; no_more = typing.no_more }

  by_giver : (d : ℕ) (n : List ℕ) (g : Giver all d n) → AllByRecursion GivesOk (g.step.gives M) → IsOk (M d n)
  by_giver d n g ok =
      given_name M (g.step.gives M) d n (holds_in M g.step all (typing_holds (called_panel vis) vi.panel (entries_of vi) M typing.given) g.is) ok
      (same_given (g.step.gives nothing) (g.step.gives M) d n (named_in g.step all (vi_named (called_panel vis) vi.panel (entries_of vi)) g.is nothing M) g.gives)

  no_giver : (d : ℕ) (n : List ℕ) → NoGiver all d n → IsOk (M d n)
  no_giver d n none t e = absurd (none_some t (sym (none_given (called_panel vis) vi.panel (entries_of vi) M whole_typing d n none) ∙ e))

  in_turn : (s : Step) → Ready all s → only.IsIn s all → AllByRecursion GivesOk (s.gives M)
  in_turn s (ready _ h) is =
      step_ok s is
      (all_read M s.reads
      (λ d n r. ⊎_elim
      (λ (g : Giver all d n). by_giver d n g (in_turn g.step (h g.step g.is (record { diagram = d; name = n; reads = r; gives = g.gives })) g.is))
      (no_giver d n)
      (find_giver all d n)))

  -- each type is such as a listing can write
  pub types_spelled : ((t : Step) → only.IsIn t all → Ready all t) → (d : ℕ) (n : List ℕ) → IsOk (M d n)
  types_spelled every d n = ⊎_elim (λ (g : Giver all d n). by_giver d n g (in_turn g.step (every g.step g.is) g.is)) (no_giver d n) (find_giver all d n)
