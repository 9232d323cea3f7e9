-- What a node has in a VI whose types break no rule, kind by kind.
use Rattle.std.proofs.Common.{◌≡◌, ◌≤◌, inl, inr, ℕ, ℤ, ◌+◌, Bool, true, false, List, [], ◌∷◌, ◌++◌, map, length, Option, Some, None, refl, ap, sym, ◌∙◌, subst, arith}
use Rattle.std.specs.Prelude.{is_some, nat_le, if◌then◌else◌}
use Rattle.std.specs.List.{AllByRecursion, list_all}
use Rattle.std.proofs.lemmas.Bool.{false≢true}
use Rattle.std.proofs.lemmas.Bool.Decides.{nat_tests}
use Rattle.g_types.specs.declared.ty.Ty.{Ty, out-Ty}
use Rattle.g_types.specs.declared.ty.Ty.TheOpen.{Ty-F}
use Rattle.g_types.specs.declared.ty.Ty.TheVariants as ty
use Rattle.g_types.specs.declared.ty.Ty.TheViews.{roll-Ty, roll-out-Ty}
use Rattle.g_types.specs.Ty.{depth, is_num}
use Rattle.g_values.specs.declared.primitive.Primitive.{Primitive}
use Rattle.g_values.specs.Spelled.{IsSpelled}
use Rattle.g_values.proofs.SpelledTypes.{spelled_queue}
use Rattle.g_operations.specs.declared.shared.SharedOp.{SharedOp}
use Rattle.g_operations.specs.declared.shared.SharedOp.TheVariants as shared
use Rattle.g_operations.specs.Rows.{fits, shared_row}
use Rattle.g_prims_definitions.specs.Kinds.{is_assignable, part, item_at}
use Rattle.g_prims_definitions.specs.Rows.{row_of, is_shallow}
use Rattle.g_diagram.specs.declared.place.Place.{Place}
use Rattle.g_diagram.specs.declared.panel.Lit.{Lit}
use Rattle.g_diagram.specs.declared.panel.PanelItem.{PanelItem}
use Rattle.g_diagram.specs.declared.panel.PanelItem.TheVariants.{Control, Indicator}
use Rattle.g_diagram.specs.declared.hierarchy.Vi.{Vi}
use Rattle.g_diagram.specs.declared.node.Tunnel.{Tunnel}
use Rattle.g_diagram.specs.declared.node.Tunnel.TheVariants as line
use Rattle.g_diagram.specs.Lines.{Wire, Entry, Kind, Const, Apply, Shows, Shared, Obtain, Read, Write, Call}
use Rattle.g_diagram.specs.Operands.{Outside, Inside, Operand, Line, source, consumer, border, plain_line, border_lines, call_inputs, in_and_out, kind_lines}
use Rattle.g_diagram.specs.Ports.{freedom}
use Rattle.g_typing.specs.Types.{Types, place, wire_type, both, wire_types, wire_at, then_type, element, queued, referred, referred_at, whole}
use Rattle.g_typing.specs.Typing.{HasGiven, given, given_each, known_or_none, with_code, row_after, shared_after, shared_types, line_inside, line_outside, lines_inside, lines_outside, kind_given, panel_type, called_panel, control_types, indicator_types}
use Rattle.g_typing.specs.Rows.{unless, has_elements, names_value, has_part, row_misses, primitive_misses, fits_shared, line_misses, lines_miss, kind_misses}
use Rattle.g_typing.specs.Literals.{is_value_of, kind_mistakes}
use Rattle.g_typing.specs.Assigned.{unlike, inputs_unlike, line_unlike, lines_unlike, shared_unlike, kind_unlike}
use Rattle.g_typing.specs.Selected.{kind_unselected}
use Rattle.g_border.specs.Readers.{sources_on, place_all, lines_sources}
use Rattle.g_frames.specs.Program.{FlatVi}
use Rattle.g_listing_laws.specs.Spelled.{IsKindSpelled, IsLineSpelled}
use Rattle.g_infer_laws.specs.OwnLines.{has_own_lines}
use Rattle.g_infer_laws.proofs.Rules.{Fed}
use Rattle.g_infer_laws.proofs.Held.{OperandsHold, LinesHold}
use Rattle.g_typed_states.specs.Places.{HaveTypes, node_places}
use Rattle.g_typed_states.specs.Lines.{IsAssignable, IsLastKnown, AllLines, types_inside, types_outside, LineFits, LinesInside, LinesOutside, LinesFit, ArgumentFits, ArgumentsFit}
use Rattle.g_typed_states.specs.Accepted.{AcceptsConst, AcceptsApply, PutFits, AcceptsShared, AcceptsObtain}
use Rattle.g_accepted.proofs.Facts.{IsIn, all_left, all_right, nil_left, nil_right, and_first, and_second, some_same, the_one}
use Rattle.g_accepted.proofs.Placed.{flat, lines, line_typed, plain_typed, named, outputs_typed, after_inputs, after_call, call_sources, inside_typed, is_plain_line, outside_typed}

pub shallow_depth : (t : Ty) → is_shallow t ≡ true → depth t ≤ 7
shallow_depth t h = short (depth t) h
  where
    short : (n : ℕ) → nat_le n 7 ≡ true → n ≤ 7
    short n h = grind (arith, nat_tests)

-- a name has a type, and a source
abbrev pub IsKnown : Types → (has_source : ℕ → List ℕ → Bool) → ℕ → List ℕ → Type 0
IsKnown M has d n = (is_some (M d n) ≡ true) × (has d n ≡ true)

pub passed : (b : Bool) (p : Place) → (if b then [] else p ∷ []) ≡ [] → b ≡ true
passed true p e = refl
passed false p e = absurd (cc e)

-- what is assigned can be
assigned : (o : Option Ty) (u : Option Ty) (p : Place) (t : Ty) → u ≡ Some t → is_some o ≡ true → unlike o u p ≡ [] → (s : Ty) × (o ≡ Some s) × (is_assignable s t ≡ true)
assigned None u p t e some none = absurd (false≢true some)
assigned (Some s) u p t e some none =
    let here : unlike (Some s) (Some t) p ≡ [] = ap (λ x. unlike (Some s) x p) (sym e) ∙ none in
    (s, refl, passed (is_assignable s t) p here)

both_known : (o : Option Ty) (os : Option (List Ty)) (t : Ty) (ts : List Ty) → o ≡ Some t → os ≡ Some ts → both o os ≡ Some (t ∷ ts)
both_known o os t ts e f = ap (λ x. both x os) e ∙ ap (both (Some t)) f

module _ (M : Types) where
  pub assignable : (d : ℕ) (w : Wire) (u : Option Ty) (p : Place) (t : Ty) → u ≡ Some t → is_some (wire_type M d w) ≡ true → unlike (wire_type M d w) u p ≡ [] → IsAssignable M d w t
  assignable d w u p t e some none = let a = assigned (wire_type M d w) u p t e some none in record { type = a.0; known = a.1; fits = a.2 }

  wires_known : (d : ℕ) (ws : List Wire) → AllByRecursion (λ w. is_some (wire_type M d w) ≡ true) ws → (ts : List Ty) × (wire_types M d ws ≡ Some ts)
  wires_known d [] h = ([], refl)
  wires_known d (w ∷ ws) h =
      let a = the_one (wire_type M d w) h.0 in
      let r = wires_known d ws h.1 in
      (a.0 ∷ r.0, both_known (wire_type M d w) (wire_types M d ws) a.0 r.0 a.1 r.1)

-- ---- kinds of types

shallow_queue : (t : Ty) → IsSpelled t → is_shallow t ≡ true → IsSpelled (ty.QueueRef t)
shallow_queue t spelled h = let le : depth t ≤ 7 = shallow_depth t h in spelled_queue t (omega (arith, le)) spelled

pub array_type : (t u : Ty) → element t ≡ Some u → t ≡ ty.Arr u
array_type t u e = by (out-Ty t) refl e
  where
    by : (k : Ty-F Ty) → out-Ty t ≡ k → item_at k ≡ Some u → t ≡ ty.Arr u
    by (Ty-F.Arr a) is e = sym (roll-out-Ty t) ∙ ap roll-Ty is ∙ ty.rolls-Arr a ∙ ap ty.Arr (some_same a u e)
    by (Ty-F.Num r) is e = absurd (cc e)
    by Ty-F.Bool is e = absurd (cc e)
    by Ty-F.Str is e = absurd (cc e)
    by (Ty-F.Cluster ts) is e = absurd (cc e)
    by (Ty-F.QueueRef a) is e = absurd (cc e)
    by (Ty-F.ValueRef a) is e = absurd (cc e)

pub reference_type : (t u : Ty) → referred t ≡ Some u → t ≡ ty.ValueRef u
reference_type t u e = by (out-Ty t) refl e
  where
    by : (k : Ty-F Ty) → out-Ty t ≡ k → referred_at k ≡ Some u → t ≡ ty.ValueRef u
    by (Ty-F.ValueRef a) is e = sym (roll-out-Ty t) ∙ ap roll-Ty is ∙ ty.rolls-ValueRef a ∙ ap ty.ValueRef (some_same a u e)
    by (Ty-F.Num r) is e = absurd (cc e)
    by Ty-F.Bool is e = absurd (cc e)
    by Ty-F.Str is e = absurd (cc e)
    by (Ty-F.Arr a) is e = absurd (cc e)
    by (Ty-F.Cluster ts) is e = absurd (cc e)
    by (Ty-F.QueueRef a) is e = absurd (cc e)

-- a type that is known is of the kind
pub kind_is : (o : Option Ty) (t : Ty) (kind : Ty → Bool) (p : Place) → o ≡ Some t → unless o kind p ≡ [] → kind t ≡ true
kind_is o t kind p e none = passed (kind t) p (ap (λ x. unless x kind p) (sym e) ∙ none)

-- what a VI's node has, by the rules and its types
pub record NodeFacts (vis : List Vi) (vi : Vi) (M : Types) (has : ℕ → List ℕ → Bool) (v : ℕ) (e : Entry) (k : Kind) : Type 0 where
  pub stands : (m : Line) → IsIn m (kind_lines (freedom vis) e k) → IsIn m (lines vis vi M)
  pub fed : LinesHold (Fed (IsKnown M has)) (kind_lines (freedom vis) e k)
  pub given : AllByRecursion (HasGiven M) (kind_given (called_panel vis) (panel_type vi.panel) M true e.diagram k)
  pub typed : AllByRecursion (λ g. is_some g.type ≡ true) (kind_given (called_panel vis) (panel_type vi.panel) M true e.diagram k)
  pub literals : kind_mistakes M v e.line e.diagram k ≡ []
  pub rows : kind_misses M v e.line e.diagram k ≡ []
  pub like : kind_unlike (called_panel vis) (panel_type vi.panel) M v e.line e.diagram k ≡ []
  pub selected : kind_unselected M v e.line e.diagram k ≡ []
  pub own : has_own_lines k ≡ true
  pub spelled : IsKindSpelled k

module _ (vis : List Vi) (vi : Vi) (M : Types) (has : ℕ → List ℕ → Bool) (v : ℕ) where
  abbrev fv : FlatVi
  fv = flat vis vi M

  abbrev all : List Line
  all = lines vis vi M

  abbrev G : ℕ → List ℕ → Type 0
  G = IsKnown M has

  abbrev Facts : Entry → Kind → Type 0
  Facts e k = NodeFacts vis vi M has v e k

  pub known : (d : ℕ) (w : Wire) → Fed G false false d w → is_some (wire_type M d w) ≡ true
  known d None fed = absurd (false≢true fed)
  known d (Some n) fed = fed.0

  at_node : (e : Entry) (k : Kind) → e.kind ≡ k → (ts : List (Option Ty)) → HaveTypes fv (lines_sources Outside (kind_lines (λ n i. false) e k)) ts → HaveTypes fv (node_places e) ts
  at_node e k is ts h = subst (λ (x : Kind). HaveTypes fv (lines_sources Outside (kind_lines (λ n i. false) e x)) ts) (sym is) h

  -- ---- nodes of one line

  pub const_accepted : (e : Entry) (t : Ty) (literal : Lit) (out : Wire) → e.kind ≡ Const t literal out → Facts e (Const t literal out) → AcceptsConst fv e t literal
  const_accepted e t literal out is f = record {
    spelled = f.spelled;
    value = passed (is_value_of literal t) (place v e.line 0) f.literals;
    places = at_node e (Const t literal out) is (Some t ∷ [])
        (plain_typed vis vi M e (source Outside out ∷ []) (f.stands (plain_line e (source Outside out ∷ [])) (inl refl)) (Some t ∷ [])
        ((λ d n side w. named M e.diagram out (Some t) f.given d n side w), tt));
  }

  inputs_known : (l : Line) (ws : List Wire) (os : List Operand) → OperandsHold (Fed G) l (map (consumer Outside) ws ++ os) → AllByRecursion (λ w. is_some (wire_type M l.outside w) ≡ true) ws
  inputs_known l [] os h = tt
  inputs_known l (w ∷ ws) os h = (known l.outside w h.0, inputs_known l ws os h.1)

  row_there : (l n : ℕ) (p : Primitive) (ts : List Ty) (o : Option (List Ty)) → row_of p ts ≡ o → row_misses v l p n ts o ≡ [] → (gives : List Ty) × (row_of p ts ≡ Some gives)
  row_there l n p ts None is none = absurd (cc none)
  row_there l n p ts (Some given) is none = (given, is)

  -- outputs after inputs
  outputs_accepted : (e : Entry) (inputs outputs : List Wire) (o : Option (List Ty)) (ts : List Ty) → o ≡ Some ts → IsIn (plain_line e (in_and_out inputs outputs)) all
      → AllByRecursion (HasGiven M) (given_each e.diagram outputs (known_or_none o)) → AllByRecursion (λ g. is_some g.type ≡ true) (given_each e.diagram outputs (known_or_none o))
      → HaveTypes fv (place_all e.line (sources_on Outside 1 (in_and_out inputs outputs)) ++ []) (map Some ts)
  outputs_accepted e inputs outputs o ts same stands given typed =
      let l : Line = plain_line e (in_and_out inputs outputs) in
      plain_typed vis vi M e (in_and_out inputs outputs) stands (map Some ts)
      (after_inputs M l inputs (map (source Outside) outputs) (map Some ts)
      (outputs_typed M l outputs ts
      (subst (λ (x : Option (List Ty)). AllByRecursion (HasGiven M) (given_each e.diagram outputs (known_or_none x))) same given)
      (subst (λ (x : Option (List Ty)). AllByRecursion (λ g. is_some g.type ≡ true) (given_each e.diagram outputs (known_or_none x))) same typed)))

  pub apply_accepted : (e : Entry) (op : Primitive) (inputs outputs : List Wire) → e.kind ≡ Apply op inputs outputs → Facts e (Apply op inputs outputs) → AcceptsApply fv e op inputs
  apply_accepted e op inputs outputs is f =
      let l : Line = plain_line e (in_and_out inputs outputs) in
      let takes = wires_known M e.diagram inputs (inputs_known l inputs (map (source Outside) outputs) f.fed.0) in
      let none : primitive_misses v e.line op (length outputs) (Some takes.0) ≡ [] = ap (primitive_misses v e.line op (length outputs)) (sym takes.1) ∙ f.rows in
      let gives = row_there e.line (length outputs) op takes.0 (row_of op takes.0) refl none in
      let out : row_after op (wire_types M e.diagram inputs) ≡ Some gives.0 = ap (row_after op) takes.1 ∙ gives.1 in
      record {
        takes = takes.0;
        known = takes.1;
        gives = gives.0;
        row = gives.1;
        places = at_node e (Apply op inputs outputs) is (map Some gives.0)
            (outputs_accepted e inputs outputs (row_after op (wire_types M e.diagram inputs)) gives.0 out (f.stands l (inl refl)) f.given f.typed);
      }

  first_fed : (l : Line) (op : SharedOp) (ins : List Wire) (m : ℕ) (os : List Operand) → fits (shared_row op) (length ins) m ≡ true → OperandsHold (Fed G) l (map (consumer Outside) ins ++ os)
      → is_some (wire_type M l.outside (wire_at ins 0)) ≡ true
  first_fed l op [] m os fit fed = absurd (has_input op m fit)
    where
      has_input : (p : SharedOp) (m : ℕ) → fits (shared_row p) 0 m ≡ true → ⊥
      has_input shared.Enqueue m h = false≢true h
      has_input shared.Dequeue m h = false≢true h
      has_input shared.Release m h = false≢true h
      has_input shared.Size m h = false≢true h
      has_input shared.NewRef m h = false≢true h
      has_input shared.DelRef m h = false≢true h
  first_fed l op (w ∷ ws) m os fit fed = known l.outside w fed.0

  -- an `enqueue` has a second input
  second_fed : (l : Line) (ins : List Wire) (m : ℕ) (os : List Operand) → fits (shared_row shared.Enqueue) (length ins) m ≡ true → OperandsHold (Fed G) l (map (consumer Outside) ins ++ os)
      → is_some (wire_type M l.outside (wire_at ins 1)) ≡ true
  second_fed l [] m os fit fed = absurd (false≢true fit)
  second_fed l (w ∷ []) m os fit fed = absurd (false≢true fit)
  second_fed l (w ∷ x ∷ ws) m os fit fed = known l.outside x fed.1.0

  put_fits : (e : Entry) (op : SharedOp) (ins outs : List Wire) (first : Ty) → wire_type M e.diagram (wire_at ins 0) ≡ Some first
      → OperandsHold (Fed G) (plain_line e (in_and_out ins outs)) (in_and_out ins outs) → fits (shared_row op) (length ins) (length outs) ≡ true → shared_unlike M v e.line e.diagram op ins ≡ []
      → PutFits M e.diagram op first (wire_at ins 1)
  put_fits e shared.Enqueue ins outs first is fed fit like =
      λ item queue. assignable M e.diagram (wire_at ins 1) (then_type (wire_type M e.diagram (wire_at ins 0)) queued) (place v e.line 2) item (ap (λ o. then_type o queued) is ∙ queue)
      (second_fed (plain_line e (in_and_out ins outs)) ins (length outs) (map (source Outside) outs) fit fed) like
  put_fits e shared.Dequeue ins outs first is fed fit like = tt
  put_fits e shared.Release ins outs first is fed fit like = tt
  put_fits e shared.Size ins outs first is fed fit like = tt
  put_fits e shared.NewRef ins outs first is fed fit like = tt
  put_fits e shared.DelRef ins outs first is fed fit like = tt

  with_code_there : (o : Option Ty) → is_some o ≡ true → (ts : List Ty) × (with_code o ≡ Some ts)
  with_code_there None some = absurd (false≢true some)
  with_code_there (Some t) some = (t ∷ whole ∷ [], refl)

  shared_there : (op : SharedOp) (t : Ty) → fits_shared op t ≡ true → (ts : List Ty) × (shared_types op t ≡ Some ts)
  shared_there shared.Enqueue t may = (whole ∷ [], refl)
  shared_there shared.Dequeue t may = with_code_there (queued t) may
  shared_there shared.Release t may = (whole ∷ [], refl)
  shared_there shared.Size t may = (whole ∷ whole ∷ [], refl)
  shared_there shared.NewRef t may = (ty.ValueRef t ∷ [], refl)
  shared_there shared.DelRef t may = with_code_there (referred t) may

  pub shared_accepted : (e : Entry) (op : SharedOp) (inputs outputs : List Wire) → e.kind ≡ Shared op inputs outputs → fits (shared_row op) (length inputs) (length outputs) ≡ true
      → Facts e (Shared op inputs outputs) → AcceptsShared fv e op inputs
  shared_accepted e op inputs outputs is fit f =
      let l : Line = plain_line e (in_and_out inputs outputs) in
      let o : Option Ty = wire_type M e.diagram (wire_at inputs 0) in
      let first = the_one o (first_fed l op inputs (length outputs) (map (source Outside) outputs) fit f.fed.0) in
      let may : fits_shared op first.0 ≡ true = kind_is o first.0 (fits_shared op) (place v e.line 1) first.1 f.rows in
      let gives = shared_there op first.0 may in
      let out : shared_after op o ≡ Some gives.0 = ap (shared_after op) first.1 ∙ gives.1 in
      record {
        first = first.0;
        known = first.1;
        fits = may;
        put = put_fits e op inputs outputs first.0 first.1 f.fed.0 fit f.like;
        gives = gives.0;
        row = gives.1;
        places = at_node e (Shared op inputs outputs) is (map Some gives.0) (outputs_accepted e inputs outputs (shared_after op o) gives.0 out (f.stands l (inl refl)) f.given f.typed);
      }

  pub obtain_accepted : (e : Entry) (queue : List ℕ) (size : ℤ) (item : Ty) (out : Wire) → e.kind ≡ Obtain queue size item out → Facts e (Obtain queue size item out) → AcceptsObtain fv e item
  obtain_accepted e queue size item out is f = record {
    spelled = shallow_queue item f.spelled.1 (passed (is_shallow item) (place v e.line 0) f.rows);
    places = at_node e (Obtain queue size item out) is (Some (ty.QueueRef item) ∷ [])
        (plain_typed vis vi M e (source Outside out ∷ []) (f.stands (plain_line e (source Outside out ∷ [])) (inl refl)) (Some (ty.QueueRef item) ∷ [])
        ((λ d n side w. named M e.diagram out (Some (ty.QueueRef item)) f.given d n side w), tt));
  }

  -- a node that reads a panel object gives its type
  pub read_places : (e : Entry) (object : List ℕ) (out : Wire) (t : Ty) → e.kind ≡ Read object out → panel_type vi.panel object ≡ Some t → Facts e (Read object out) → HaveTypes fv (node_places e) (Some t ∷ [])
  read_places e object out t is type f =
      at_node e (Read object out) is (Some t ∷ [])
      (plain_typed vis vi M e (source Outside out ∷ []) (f.stands (plain_line e (source Outside out ∷ [])) (inl refl)) (Some t ∷ [])
      ((λ d n side w. named M e.diagram out (panel_type vi.panel object) f.given d n side w ∙ type), tt))

  -- what is written to a panel object can be assigned to it
  pub write_fits : (e : Entry) (object : List ℕ) (w : Wire) (t : Ty) → panel_type vi.panel object ≡ Some t → Facts e (Write object w) → IsAssignable M e.diagram w t
  write_fits e object w t type f =
      assignable M e.diagram w (panel_type vi.panel object) (place v e.line 1) t type (known e.diagram w f.fed.0.0) f.like

  -- what is shown; an indicator that is a node is wired
  pub shown_fits : (e : Entry) (name : List ℕ) (t : Ty) (n : List ℕ) → Facts e (Shows name t (Some n)) → IsAssignable M e.diagram (Some n) t
  shown_fits e name t n f = assignable M e.diagram (Some n) (Some t) (place v e.line 1) t refl f.fed.0.0.0 f.like

  -- ---- calls

  inputs_fit : (l : Line) (free : ℕ → Bool) (j k : ℕ) (ws : List Wire) (os : List Operand) (items : List PanelItem) → OperandsHold (Fed G) l (call_inputs free j ws ++ os)
      → inputs_unlike M v l.line l.outside k ws (control_types items) ≡ [] → ArgumentsFit M l.outside ws items
  inputs_fit l free j k ws os [] fed like = tt
  inputs_fit l free j k [] os (Control name t required default out ∷ items) fed like = inputs_fit l free j k [] os items fed refl
  inputs_fit l free j k (w ∷ ws) os (Control name t required default out ∷ items) fed like = (
    argument w fed.0 (nil_left (unlike (wire_type M l.outside w) (Some t) (place v l.line k)) (inputs_unlike M v l.line l.outside (k + 1) ws (control_types items)) like),
    inputs_fit l free (j + 1) (k + 1) ws os items fed.1 (nil_right (unlike (wire_type M l.outside w) (Some t) (place v l.line k)) (inputs_unlike M v l.line l.outside (k + 1) ws (control_types items)) like),
  )
    where
      argument : (w : Wire) → Fed G false (free j) l.outside w → unlike (wire_type M l.outside w) (Some t) (place v l.line k) ≡ [] → ArgumentFits M l.outside w t
      argument None fed none = tt
      argument (Some n) fed none = assignable M l.outside (Some n) (Some t) (place v l.line k) t refl fed.0 none
  inputs_fit l free j k [] os (Indicator name t w ∷ items) fed like = inputs_fit l free j k [] os items fed like
  inputs_fit l free j k (x ∷ ws) os (Indicator name t w ∷ items) fed like = inputs_fit l free j k (x ∷ ws) os items fed like

  pub call_inputs_fit : (e : Entry) (name : List ℕ) (inputs outputs : List Wire) → Facts e (Call name inputs outputs) → ArgumentsFit M e.diagram inputs (called_panel vis name)
  call_inputs_fit e name inputs outputs f =
      inputs_fit (plain_line e (call_inputs (freedom vis name) 0 inputs ++ map (source Outside) outputs)) (freedom vis name) 0 1 inputs (map (source Outside) outputs) (called_panel vis name) f.fed.0 f.like

  pub call_places : (e : Entry) (name : List ℕ) (inputs outputs : List Wire) → e.kind ≡ Call name inputs outputs → Facts e (Call name inputs outputs)
      → HaveTypes fv (node_places e) (map Some (indicator_types (called_panel vis name)))
  call_places e name inputs outputs is f =
      let ts : List Ty = indicator_types (called_panel vis name) in
      let os : List Operand = call_inputs (freedom vis name) 0 inputs ++ map (source Outside) outputs in
      let l : Line = plain_line e os in
      at_node e (Call name inputs outputs) is (map Some ts)
      (subst (λ (ks : List ℕ). HaveTypes fv (place_all e.line ks ++ []) (map Some ts)) (call_sources (freedom vis name) (λ k. false) 1 0 inputs (map (source Outside) outputs))
      (plain_typed vis vi M e os (f.stands l (inl refl)) (map Some ts)
      (after_call M l (freedom vis name) 0 inputs (map (source Outside) outputs) (map Some ts) (outputs_typed M l outputs ts f.given f.typed))))

  -- ---- border lines

  -- a border line of a node, with the diagrams on its sides
  abbrev on_border : Entry → (inside before : List ℕ) → (Tunnel → List Operand) → (l : ℕ) → Tunnel → Line
  on_border e inside before form l t = record { line = l; node = e.line; outside = e.diagram; inside = inside; before = before; operands = form t }

  abbrev Stand : List Line → Type 0
  Stand ls = (m : Line) → IsIn m ls → IsIn m all

  pub lines_inside_typed : (e : Entry) (bs before_lines : List ℕ) (before : Option ℕ) (l : ℕ) (ts : List Tunnel) → Stand (border_lines e bs before_lines border l ts)
      → ((b : ℕ) → IsIn b bs → AllByRecursion (HasGiven M) (lines_inside M e.diagram b before ts)) → LinesInside fv e.diagram before l ts
  lines_inside_typed e bs before_lines before l [] stand h = tt
  lines_inside_typed e bs before_lines before l (t ∷ ts) stand h =
      let m : Line = on_border e bs before_lines border l t in (
        line_typed vis vi M m (stand m (inl refl)) Inside (types_inside M e.diagram before t)
            (inside_typed M m e.diagram before t (λ b is. all_left (HasGiven M) (line_inside M e.diagram b before t) (lines_inside M e.diagram b before ts) (h b is))),
        lines_inside_typed e bs before_lines before (l + 1) ts (λ x is. stand x (inr is))
            (λ b is. all_right (HasGiven M) (line_inside M e.diagram b before t) (lines_inside M e.diagram b before ts) (h b is)),
      )

  pub lines_outside_typed : (e : Entry) (bs before_lines : List ℕ) (b l : ℕ) (ts : List Tunnel) → list_all is_plain_line ts ≡ true → Stand (border_lines e bs before_lines border l ts)
      → AllByRecursion (HasGiven M) (lines_outside M true e.diagram b ts) → LinesOutside fv (types_outside M e.diagram b) l ts
  lines_outside_typed e bs before_lines b l [] plain stand h = tt
  lines_outside_typed e bs before_lines b l (t ∷ ts) plain stand h =
      let m : Line = on_border e bs before_lines border l t in (
        line_typed vis vi M m (stand m (inl refl)) Outside (types_outside M e.diagram b t)
            (outside_typed M m b t (and_first (is_plain_line t) (list_all is_plain_line ts) plain) (all_left (HasGiven M) (line_outside M true e.diagram b t) (lines_outside M true e.diagram b ts) h)),
        lines_outside_typed e bs before_lines b (l + 1) ts (and_second (is_plain_line t) (list_all is_plain_line ts) plain) (λ x is. stand x (inr is))
            (all_right (HasGiven M) (line_outside M true e.diagram b t) (lines_outside M true e.diagram b ts) h),
      )

  inner_fed : (m : Line) (b : ℕ) (free : Bool) (w : Wire) → m.inside ≡ b ∷ [] → AllByRecursion (λ d. Fed G false free d w) m.inside → Fed G false free b w
  inner_fed m b free w one h = (subst (λ (bs : List ℕ). AllByRecursion (λ d. Fed G false free d w) bs) one h).0

  -- what a line takes fits; m is the line of a node whose diagram inside is b
  line_fits : (m : Line) (b l : ℕ) (t : Tunnel) → m.inside ≡ b ∷ [] → OperandsHold (Fed G) m (border t) → line_misses M v m.outside b l t ≡ [] → line_unlike M v m.outside b l t ≡ [] → IsLineSpelled t
      → LineFits M m.outside b t
  line_fits m b l (line.Tunnel outer inner) one fed rows like spelled = tt
  line_fits m b l (line.Register initial inner next last) one fed rows like spelled =
      let i = the_one (wire_type M m.outside initial) (known m.outside initial fed.0) in
      record { type = i.0; known = i.1; value = assignable M b next (wire_type M m.outside initial) (place v l 3) i.0 i.1 (known b next (inner_fed m b false next one fed.1.1.0)) like }
  line_fits m b l (line.Kept t inner next last) one fed rows like spelled =
      record { spelled = spelled; value = assignable M b next (Some t) (place v l 3) t refl (known b next (inner_fed m b false next one fed.1.1.0)) like }
  line_fits m b l (line.Last inner outer) one fed rows like spelled = tt
  line_fits m b l (line.Gather inner outer) one fed rows like spelled = tt
  line_fits m b l (line.Index array inner) one fed rows like spelled = tt
  line_fits m b l (line.Result outer default) one fed rows like spelled = tt
  line_fits m b l (line.Carry earlier inner) one fed rows like spelled = tt
  line_fits m b l (line.Ref reference inner next same code) one fed rows like spelled =
      let r = the_one (wire_type M m.outside reference) (known m.outside reference fed.0) in
      let names = the_one (referred r.0) (kind_is (wire_type M m.outside reference) r.0 names_value (place v l 1) r.1 rows) in
      record {
        type = names.0;
        known = r.1 ∙ ap Some (reference_type r.0 names.0 names.1);
        value = assignable M b next (then_type (wire_type M m.outside reference) referred) (place v l 3) names.0 (ap (λ o. then_type o referred) r.1 ∙ names.1)
            (known b next (inner_fed m b false next one fed.1.1.0)) like;
      }
  line_fits m b l (line.Element array index inner next outer) one fed rows like spelled =
      let a = the_one (wire_type M m.outside array) (known m.outside array fed.0) in
      let i = the_one (wire_type M m.outside index) (known m.outside index fed.1.0) in
      let first : List Place = unless (wire_type M m.outside array) has_elements (place v l 1) in
      let second : List Place = unless (wire_type M m.outside index) is_num (place v l 2) in
      let item = the_one (element a.0) (kind_is (wire_type M m.outside array) a.0 has_elements (place v l 1) a.1 (nil_left first second rows)) in
      record {
        type = item.0;
        known = a.1 ∙ ap Some (array_type a.0 item.0 item.1);
        number = i.0;
        indexed = i.1;
        is_number = kind_is (wire_type M m.outside index) i.0 is_num (place v l 2) i.1 (nil_right first second rows);
        value = assignable M b next (then_type (wire_type M m.outside array) element) (place v l 4) item.0 (ap (λ o. then_type o element) a.1 ∙ item.1)
            (known b next (inner_fed m b false next one fed.1.1.1.0)) like;
      }
  line_fits m b l (line.Field k cluster inner next outer) one fed rows like spelled =
      let c = the_one (wire_type M m.outside cluster) (known m.outside cluster fed.0) in
      let item = the_one (part k c.0) (kind_is (wire_type M m.outside cluster) c.0 (has_part k) (place v l 1) c.1 rows) in
      record {
        whole = c.0;
        known = c.1;
        type = item.0;
        part_is = item.1;
        value = assignable M b next (then_type (wire_type M m.outside cluster) (part k)) (place v l 3) item.0 (ap (λ o. then_type o (part k)) c.1 ∙ item.1)
            (known b next (inner_fed m b false next one fed.1.1.0)) like;
      }

  pub lines_fit : (e : Entry) (b : ℕ) (before_lines : List ℕ) (l : ℕ) (ts : List Tunnel) → LinesHold (Fed G) (border_lines e (b ∷ []) before_lines border l ts)
      → lines_miss M v e.diagram b l ts ≡ [] → lines_unlike M v e.diagram b l ts ≡ [] → AllByRecursion IsLineSpelled ts → LinesFit M e.diagram b ts
  lines_fit e b before_lines l [] fed rows like spelled = tt
  lines_fit e b before_lines l (t ∷ ts) fed rows like spelled = (
    line_fits (on_border e (b ∷ []) before_lines border l t) b l t refl fed.0 (nil_left (line_misses M v e.diagram b l t) (lines_miss M v e.diagram b (l + 1) ts) rows)
        (nil_left (line_unlike M v e.diagram b l t) (lines_unlike M v e.diagram b (l + 1) ts) like) spelled.0,
    lines_fit e b before_lines (l + 1) ts fed.1 (nil_right (line_misses M v e.diagram b l t) (lines_miss M v e.diagram b (l + 1) ts) rows)
        (nil_right (line_unlike M v e.diagram b l t) (lines_unlike M v e.diagram b (l + 1) ts) like) spelled.1,
  )

  -- what a line gives as it stands inside has a type
  last_known : (m : Line) (b : ℕ) (t : Tunnel) → m.inside ≡ b ∷ [] → OperandsHold (Fed G) m (border t) → IsLastKnown M b t
  last_known m b (line.Tunnel outer inner) one fed = tt
  last_known m b (line.Register initial inner next last) one fed = tt
  last_known m b (line.Kept t inner next last) one fed = tt
  last_known m b (line.Last inner outer) one fed = the_one (wire_type M b inner) (known b inner (inner_fed m b false inner one fed.0))
  last_known m b (line.Gather inner outer) one fed = tt
  last_known m b (line.Index array inner) one fed = tt
  last_known m b (line.Result outer default) one fed = tt
  last_known m b (line.Carry earlier inner) one fed = tt
  last_known m b (line.Ref reference inner next same code) one fed = tt
  last_known m b (line.Element array index inner next outer) one fed = tt
  last_known m b (line.Field k cluster inner next outer) one fed = tt

  pub lasts_known : (e : Entry) (b : ℕ) (before_lines : List ℕ) (l : ℕ) (ts : List Tunnel) → LinesHold (Fed G) (border_lines e (b ∷ []) before_lines border l ts) → AllLines (IsLastKnown M b) ts
  lasts_known e b before_lines l [] fed = tt
  lasts_known e b before_lines l (t ∷ ts) fed =
      (last_known (on_border e (b ∷ []) before_lines border l t) b t refl fed.0, lasts_known e b before_lines (l + 1) ts fed.1)
