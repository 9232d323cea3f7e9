-- The program of a hierarchy in which nothing is broken is accepted.
use Rattle.std.proofs.Common.{◌≡◌, ◌≤◌, inl, inr, ⊎_elim, ℕ, ℤ, pos, negsuc, ◌+◌, Bool, true, false, not, ◌||◌, List, [], ◌∷◌, map, length, Option, Some, None, refl, ap, sym, ◌∙◌, subst, arith}
use Rattle.std.specs.Prelude.{is_some, slice_get, if◌then◌else◌}
use Rattle.std.specs.List.{AllByRecursion}
use Rattle.std.specs.Str.{bytes_eq}
use Rattle.std.proofs.lemmas.Bool.{false≢true}
use Rattle.std.proofs.lemmas.List.Elements.{recursion_from_All}
use Rattle.std.proofs.lemmas.Slice.Eq.{bytes_eq-Decides}
use Rattle.g_types.specs.declared.ty.Ty.{Ty}
use Rattle.g_types.specs.declared.ty.Ty.TheVariants as ty
use Rattle.g_types.specs.Ty.{depth}
use Rattle.g_values.specs.Spelled.{IsSpelled}
use Rattle.g_values.proofs.SpelledTypes.{spelled_cell}
use Rattle.g_operations.specs.declared.shared.SharedOp.{SharedOp}
use Rattle.g_operations.specs.declared.shared.SharedOp.TheVariants as shared
use Rattle.g_diagram.specs.declared.place.Break.{Break}
use Rattle.g_diagram.specs.declared.node.Tunnel.{Tunnel}
use Rattle.g_diagram.specs.declared.node.Tunnel.TheVariants as line
use Rattle.g_diagram.specs.declared.panel.PanelItem.{PanelItem}
use Rattle.g_diagram.specs.declared.panel.PanelItem.TheVariants.{Control, Indicator}
use Rattle.g_diagram.specs.declared.hierarchy.Clones.{Clones}
use Rattle.g_diagram.specs.declared.hierarchy.Clones.TheVariants.{NonReentrant, Preallocated, Pool}
use Rattle.g_diagram.specs.declared.hierarchy.Hierarchy.{Hierarchy}
use Rattle.g_diagram.specs.declared.hierarchy.Vi.{Vi}
use Rattle.g_diagram.specs.Leads.{Leads}
use Rattle.g_diagram.specs.Lines.{Wire, Entry, Kind, Const, Apply, Shows, Shared, Obtain, Read, Write, Call, Loop, Case, Sequence, InPlace, entries_of, panel_entries, nodes_entries}
use Rattle.g_diagram.specs.Operands.{Inside, Line, source, border, border_lines, kind_lines, entries_lines, control_line, control_lines}
use Rattle.g_diagram.specs.Ports.{Port, ports_of, freedom, first_vi, has_wire}
use Rattle.g_rules_lines.specs.Callees.{arity}
use Rattle.std.specs.Option.{option_map}
use Rattle.g_rules_lines.specs.InPlaceBodies.{insides, kind_spare_refs}
use Rattle.g_rules_lines.specs.PanelObjects.{names_object}
use Rattle.g_wires.specs.Breaks.{IsWiring}
use Rattle.g_shared.specs.Queues.{IsSize}
use Rattle.g_hier.specs.declared.linked.Linked.{Linked}
use Rattle.g_hier.specs.declared.linked.Placed.{Placed}
use Rattle.g_hier.specs.declared.linked.Space.{Space}
use Rattle.g_hier.specs.Outlines.{number_of, outline_of, outlines_of}
use Rattle.g_hier.specs.LinkOrder.{IsLinked}
use Rattle.g_typing.specs.Types.{Types, place, wire_type, wire_at}
use Rattle.g_typing.specs.Typing.{Given, HasGiven, IsTyping, given, controls_given, entries_given, kind_given, all_given, called_panel, panel_of, panel_type, indicator_types}
use Rattle.g_typing.specs.Literals.{is_default_of, item_mistakes, panel_mistakes}
use Rattle.g_typing.specs.Breaks.{TypeBreak}
use Rattle.g_typing.proofs.Steps.{ok_at}
use Rattle.g_typing.proofs.Only as only
use Rattle.g_typing.proofs.Only.{vi_steps}
use Rattle.g_typing.proofs.Unique.{Step}
use Rattle.g_typing.proofs.Ready.{Ready}
use Rattle.g_typing.proofs.Ready as ready
use Rattle.g_typing.proofs.Names.{Giver, find_giver}
use Rattle.g_typing.proofs.Agreed.{none_given, all_ready}
use Rattle.g_border.specs.Readers.{source_of}
use Rattle.g_border.specs.Loops.{kept_registers}
use Rattle.g_frames.specs.declared.program.QueueName.{QueueName}
use Rattle.g_frames.specs.declared.program.CellPlace.{CellPlace}
use Rattle.g_frames.specs.declared.program.KeptPlace.{KeptPlace}
use Rattle.g_frames.specs.Program as frames
use Rattle.g_frames.specs.Program.{FlatVi, Program, flat_vi, flat_vis, vi_at, numbered, first_of_each, queue_on, cell_on, kept_on, program, IsProgram}
use Rattle.g_frames.specs.State.{clone_count}
use Rattle.g_listing_laws.specs.Spelled.{IsItemSpelled, IsPoolSize, IsQueueSize, IsLineSpelled, IsKindSpelled, IsViSpelled}
use Rattle.g_infer_laws.specs.OwnLines.{has_own_lines, HasOwnLines}
use Rattle.g_infer_laws.specs.Wires.{HasType, IsAllTyped}
use Rattle.g_infer_laws.proofs.EachTyped.{each_wire_typed}
use Rattle.g_infer_laws.proofs.Held.{PortsHold, LinesHold, from_ports}
use Rattle.g_infer_laws.proofs.Rules.{Fed, IsRight, consumers_fed, none_turns, right}
use Rattle.g_infer_laws.proofs.Sources.{Sourced}
use Rattle.g_rules.specs.Checked.{IsUnbroken, types}
use Rattle.g_typed_states.specs.Places.{HaveTypes, node_places}
use Rattle.g_typed_states.specs.Lines.{IsAssignable, ArgumentsFit, IsItemProper, ControlsTyped, cell_type}
use Rattle.g_typed_states.specs.Accepted.{AcceptsKind, IsAcceptedVi, HasInSpace, HasShared, IsAcceptedSpace, IsAccepted}
use Rattle.g_accepted.specs.Laws.{AreAccepted}
use Rattle.g_rules_lines.specs.Queues.{all_queues, first_queue}
use Rattle.g_accepted.proofs.Facts.{IsIn, in_left, in_either, in_get, of_one, each_one, all_left, all_right, nil_left, nil_right, some_same, none_some, the_one, is_there}
use Rattle.g_accepted.proofs.Laid.{lines_once}
use Rattle.g_accepted.proofs.Sources.{at_own_line, some_source}
use Rattle.g_accepted.proofs.Broken.{IsSound, sound}
use Rattle.g_accepted.proofs.Placed.{flat, lines, named}
use Rattle.g_accepted.proofs.Nodes.{IsKnown, NodeFacts, passed, shallow_depth, const_accepted, apply_accepted, shared_accepted, obtain_accepted, read_places, write_fits, shown_fits, call_inputs_fit, call_places}
use Rattle.g_accepted.proofs.Structures.{from_among, loop_accepted, case_accepted, sequence_accepted, place_accepted}
use Rattle.g_accepted.proofs.Linked.{InOrder, in_order}
use Rattle.g_accepted.proofs.Objects.{get_map, get_mapped, flat_got, get_flat, flat_number, numbered_vi, of_space, InSpace, of_queues, OfQueue, first_kept, pool_there}
use Rattle.g_accepted.proofs.Spaces.{call_space, main_space, queue_there, obtained, cell_there, kept_there, OfCell, of_cell, OfKept, of_kept}
use Rattle.g_accepted.proofs.Given.{giver_found}
use Rattle.g_accepted.proofs.TypesSpelled.{IsOk, NodesOk, types_spelled, indicators_ok}
use Rattle.g_accepted.proofs.Supplied.{IsLineOf, lines_of_kind, top_supplied}
use Rattle.g_accepted.proofs.Owners.{loop_supplied, case_supplied, part_supplied}
use Rattle.g_accepted.proofs.Panels.{cell_of_item, typed_item, shown_item}
use Rattle.g_accepted.proofs.Inside.{top_ranged}
use Rattle.g_accepted.proofs.Gathered.{spare_own}
use Rattle.g_accepted.proofs.BodyTurns.{vi_line}
use Rattle.g_accepted.proofs.WorkedOut.{worked_out}
use Rattle.g_accepted.proofs.Ruled.{main_there, none_misplaced, equal_queues, one_item}

-- ---- at a number

at_number : {A : Type 0} (P : A → Type 0) (xs : List A) (k : ℕ) (x : A) → AllByRecursion P xs → slice_get xs k ≡ Some x → P x
at_number P xs k x all at = of_one P xs all x (in_get xs k x at)

-- ---- what is given to a node

given_of : (P : Given → Type 0) (vis : List Vi) (vi : Vi) (M : Types) (es : List Entry) → AllByRecursion P (entries_given (called_panel vis) (panel_type vi.panel) M es) → (e : Entry) → IsIn e es → ok_at M e.line e.diagram e.kind ≡ true
    → AllByRecursion P (kind_given (called_panel vis) (panel_type vi.panel) M true e.diagram e.kind)
given_of P vis vi M [] h e is ok = absurd is
given_of P vis vi M (x ∷ es) h e (inl same) ok =
    let own = kind_given (called_panel vis) (panel_type vi.panel) M (ok_at M x.line x.diagram x.kind) x.diagram x.kind in
    let here = all_left P own (entries_given (called_panel vis) (panel_type vi.panel) M es) h in
    let moved = subst (λ (y : Entry). AllByRecursion P (kind_given (called_panel vis) (panel_type vi.panel) M (ok_at M y.line y.diagram y.kind) y.diagram y.kind)) same here in
    subst (λ (b : Bool). AllByRecursion P (kind_given (called_panel vis) (panel_type vi.panel) M b e.diagram e.kind)) ok moved
given_of P vis vi M (x ∷ es) h e (inr is) ok =
    let own = kind_given (called_panel vis) (panel_type vi.panel) M (ok_at M x.line x.diagram x.kind) x.diagram x.kind in
    given_of P vis vi M es (all_right P own (entries_given (called_panel vis) (panel_type vi.panel) M es) h) e is ok

-- ---- panels

panel_proper : (v l : ℕ) (items : List PanelItem) → panel_mistakes v l items ≡ [] → AllByRecursion IsItemSpelled items → AllByRecursion IsItemProper items
panel_proper v l [] none s = tt
panel_proper v l (Control name t required default out ∷ items) none s = (
  (s.0, passed (is_default_of default t) (place v l 0) (nil_left (item_mistakes v l (Control name t required default out)) (panel_mistakes v (l + 1) items) none)),
  panel_proper v (l + 1) items (nil_right (item_mistakes v l (Control name t required default out)) (panel_mistakes v (l + 1) items) none) s.1,
)
panel_proper v l (Indicator name t w ∷ items) none s = (s.0, panel_proper v (l + 1) items none s.1)

object_there : (items : List PanelItem) (name : List ℕ) → names_object items name ≡ true → is_some (panel_type items name) ≡ true
object_there [] name h = absurd (false≢true h)
object_there (Control other t required default out ∷ items) name h = by (bytes_eq other name) h (object_there items name)
  where
    by : (b : Bool) → (b || names_object items name) ≡ true → (names_object items name ≡ true → is_some (panel_type items name) ≡ true) → is_some (if b then Some t else panel_type items name) ≡ true
    by true h more = refl
    by false h more = more h
object_there (Indicator other t w ∷ items) name h = by (bytes_eq other name) h (object_there items name)
  where
    by : (b : Bool) → (b || names_object items name) ≡ true → (names_object items name ≡ true → is_some (panel_type items name) ≡ true) → is_some (if b then Some t else panel_type items name) ≡ true
    by true h more = refl
    by false h more = more h

clones_few : (c : Clones) → IsPoolSize c → (1 ≤ clone_count c) × (clone_count c ≤ 64)
clones_few NonReentrant h = (omega arith, omega arith)
clones_few Preallocated h = (omega arith, omega arith)
clones_few (Pool n) h = h

size_is : (n : ℤ) → IsQueueSize n → IsSize n
size_is (pos n) h = h
size_is (negsuc n) h = h

kept_spelled : (l : ℕ) (ts : List Tunnel) → AllByRecursion IsLineSpelled ts → (m : ℕ) (t : Ty) → IsIn (m, t) (kept_registers l ts) → IsSpelled t
kept_spelled l [] s m t is = absurd is
kept_spelled l (line.Kept u inner next last ∷ ts) s m t (inl same) = subst IsSpelled (ap (λ (x : ℕ × Ty). x.1) same) s.0
kept_spelled l (line.Kept u inner next last ∷ ts) s m t (inr is) = kept_spelled (l + 1) ts s.1 m t is
kept_spelled l (line.Tunnel outer inner ∷ ts) s m t is = kept_spelled (l + 1) ts s.1 m t is
kept_spelled l (line.Register initial inner next last ∷ ts) s m t is = kept_spelled (l + 1) ts s.1 m t is
kept_spelled l (line.Last inner outer ∷ ts) s m t is = kept_spelled (l + 1) ts s.1 m t is
kept_spelled l (line.Gather inner outer ∷ ts) s m t is = kept_spelled (l + 1) ts s.1 m t is
kept_spelled l (line.Index array inner ∷ ts) s m t is = kept_spelled (l + 1) ts s.1 m t is
kept_spelled l (line.Result outer default ∷ ts) s m t is = kept_spelled (l + 1) ts s.1 m t is
kept_spelled l (line.Carry earlier inner ∷ ts) s m t is = kept_spelled (l + 1) ts s.1 m t is
kept_spelled l (line.Ref reference inner next same code ∷ ts) s m t is = kept_spelled (l + 1) ts s.1 m t is
kept_spelled l (line.Element array index inner next outer ∷ ts) s m t is = kept_spelled (l + 1) ts s.1 m t is
kept_spelled l (line.Field k cluster inner next outer ∷ ts) s m t is = kept_spelled (l + 1) ts s.1 m t is

-- ---- sources

-- each source of a name is found
pub all_sourced : (G : ℕ → List ℕ → Type 0) (every ps : List Port) → ((p : Port) → IsIn p ps → IsIn p every) → ((p : Port) → IsIn p every → p.is_source ≡ true → (n : List ℕ) → p.wire ≡ Some n → G p.diagram n) → PortsHold (Sourced G) ps
all_sourced G every [] sub h = tt
all_sourced G every (p ∷ ps) sub h = (by p.is_source p.wire refl refl, all_sourced G every ps (λ q is. sub q (inr is)) h)
  where
    by : (s : Bool) (w : Wire) → p.is_source ≡ s → p.wire ≡ w → Sourced G s p.is_free p.diagram w
    by true None e f = tt
    by true (Some n) e f = h p (sub p (inl refl)) e n f
    by false w e f = tt

module _ (h : Hierarchy) (main : List ℕ) (unbroken : IsUnbroken h main) (spelled : AllByRecursion IsViSpelled h.vis) (own : AllByRecursion HasOwnLines h.vis) where
  wiring : IsWiring h main []
  wiring = unbroken.wired

  sound_types : (b : Break) → TypeBreak h b → ⊥
  sound_types b t = unbroken.none b (types wiring t)

  module _ (v : ℕ) (vi : Vi) (stands : slice_get h.vis v ≡ Some vi) (M : Types) (typing : IsTyping h.vis vi M) where
    abbrev es : List Entry
    es = entries_of vi

    abbrev fv : FlatVi
    fv = flat h.vis vi M

    abbrev has : ℕ → List ℕ → Bool
    has d n = is_some (source_of (ports_of h.vis vi) d n)

    abbrev Facts : Entry → Kind → Type 0
    Facts e k = NodeFacts h.vis vi M has v e k

    vi_spelled : IsViSpelled vi
    vi_spelled = at_number IsViSpelled h.vis v vi spelled stands

    vi_own : HasOwnLines vi
    vi_own = at_number HasOwnLines h.vis v vi own stands

    typed : IsAllTyped h.vis vi M
    typed = each_wire_typed h main wiring sound_types v vi M stands vi_own typing

    sound_vi : IsSound h.vis v vi M
    sound_vi = sound h sound_types v vi stands M typing

    right_node : (e : Entry) → IsIn e es → IsRight h.vis vi.panel M e.line e.diagram e.kind
    right_node e is = right h main wiring v vi stands sound_types M typing vi_own e (to_ready es e is)
      where
        to_ready : (xs : List Entry) (e : Entry) → IsIn e xs → ready.IsOf e xs
        to_ready [] e is = absurd is
        to_ready (x ∷ xs) e (inl same) = inl same
        to_ready (x ∷ xs) e (inr is) = inr (to_ready xs e is)

    no_turn : (n : ℕ) → Leads (has_wire (ports_of h.vis vi)) n n → ⊥
    no_turn = none_turns h main wiring v vi stands

    every : (t : Step) → only.IsIn t (vi_steps (called_panel h.vis) vi.panel es) → Ready (vi_steps (called_panel h.vis) vi.panel es) t
    every = all_ready h.vis vi no_turn

    -- each consumer has a source with a type
    held : LinesHold (Fed (IsKnown M has)) (lines h.vis vi M)
    held =
        from_ports (Fed (IsKnown M has)) (lines h.vis vi M)
        (consumers_fed h main wiring v vi stands (IsKnown M has)
        (all_sourced (IsKnown M has) (ports_of h.vis vi) (ports_of h.vis vi) (λ p is. is)
        (λ p is s n w. (known p is n w, some_source p.diagram n (ports_of h.vis vi) p is s refl w))))
      where
        known : (p : Port) → IsIn p (ports_of h.vis vi) → (n : List ℕ) → p.wire ≡ Some n → is_some (M p.diagram n) ≡ true
        known p is n w =
            let t = of_one (HasType M) (ports_of h.vis vi) (recursion_from_All (HasType M) (ports_of h.vis vi) typed.wires) p is n w in
            is_there (M p.diagram n) t.0 t.1

    node_line : (e : Entry) → IsIn e es → (m : Line) → IsIn m (kind_lines (freedom h.vis) e e.kind) → IsIn m (lines h.vis vi M)
    node_line e is m among = vi_line h.vis vi M 0 0 no_turn e is m among

    fed : (e : Entry) → IsIn e es → LinesHold (Fed (IsKnown M has)) (kind_lines (freedom h.vis) e e.kind)
    fed e is =
        each_one _ (kind_lines (freedom h.vis) e e.kind) (λ m among. of_one _ (lines h.vis vi M) held m (node_line e is m among))

    facts : (e : Entry) → IsIn e es → Facts e e.kind
    facts e is =
        let r : IsRight h.vis vi.panel M e.line e.diagram e.kind = right_node e is in
        record {
          stands = node_line e is;
          fed = fed e is;
          given = given_of (HasGiven M) h.vis vi M es
              (all_right (HasGiven M) (controls_given vi.panel) (entries_given (called_panel h.vis) (panel_type vi.panel) M es)
              (recursion_from_All (HasGiven M) (all_given (called_panel h.vis) vi.panel es M) typing.given)) e is r.rows;
          typed = given_of (λ g. is_some g.type ≡ true) h.vis vi M es
              (all_right (λ g. is_some g.type ≡ true) (controls_given vi.panel) (entries_given (called_panel h.vis) (panel_type vi.panel) M es)
              (recursion_from_All (λ g. is_some g.type ≡ true) (all_given (called_panel h.vis) vi.panel es M) typed.given)) e is r.rows;
          literals = of_one _ es sound_vi.literals e is;
          rows = of_one _ es sound_vi.rows e is;
          like = of_one _ es sound_vi.like e is;
          selected = of_one _ es sound_vi.selected e is;
          own = of_one (λ x. has_own_lines x.kind ≡ true) es (recursion_from_All (λ x. has_own_lines x.kind ≡ true) es vi_own) e is;
          spelled = of_one (λ x. IsKindSpelled x.kind) es (recursion_from_All (λ x. IsKindSpelled x.kind) es vi_spelled.constants) e is;
        }

    panel_spelled : AllByRecursion IsItemSpelled vi.panel
    panel_spelled = recursion_from_All IsItemSpelled vi.panel vi_spelled.panel

    -- the types of names are spelled, and names with types have sources

    called_spelled : (n : List ℕ) → AllByRecursion IsSpelled (indicator_types (called_panel h.vis n))
    called_spelled n = by (first_vi h.vis n) refl
      where
        by : (o : Option Vi) → first_vi h.vis n ≡ o → AllByRecursion IsSpelled (indicator_types (panel_of o))
        by None e = tt
        by (Some c) e =
            let s : IsViSpelled c = at_number IsViSpelled h.vis (number_of h.vis n) c spelled (numbered_vi h.vis n c e) in
            indicators_ok c.panel (recursion_from_All IsItemSpelled c.panel s.panel)

    nodes_ok : NodesOk h.vis vi M v
    nodes_ok = record {
      panel = panel_spelled;
      called = called_spelled;
      spelled = λ e is. (facts e is).spelled;
      own = λ e is. (facts e is).own;
      rows = λ e is. (facts e is).rows;
    }

    name_spelled : (d : ℕ) (n : List ℕ) → IsOk (M d n)
    name_spelled = types_spelled h.vis vi M v nodes_ok typing every

    name_sourced : (d : ℕ) (n : List ℕ) (t : Ty) → M d n ≡ Some t → is_some (source_of fv.ports d n) ≡ true
    name_sourced d n t e =
        ⊎_elim
        (λ (g : Giver (vi_steps (called_panel h.vis) vi.panel es) d n). giver_found h.vis vi d n g)
        (λ none. absurd (none_some t (sym (none_given (called_panel h.vis) vi.panel es M (record { given = typing.given; no_more = typing.no_more }) d n none) ∙ e)))
        (find_giver (vi_steps (called_panel h.vis) vi.panel es) d n)

    -- ---- the panel

    cell_is : (name : List ℕ) (t : Ty) → panel_type vi.panel name ≡ Some t → cell_type vi.panel name ≡ Some t
    cell_is name t e =
        let x = typed_item vi.panel name t e in
        subst (λ (n : List ℕ). cell_type vi.panel n ≡ Some t) x.2
        (cell_of_item vi.panel (one_item h main wiring v vi stands) x.0 x.1 ∙ ap Some x.3)

    controls_typed : (l : ℕ) (items : List PanelItem) → ((m : Line) → IsIn m (control_lines l items) → IsIn m (lines h.vis vi M)) → AllByRecursion (HasGiven M) (controls_given items) → ControlsTyped fv l items
    controls_typed l [] stand g = tt
    controls_typed l (Control name t required default out ∷ items) stand g = (
      (λ d n e.
          let m : Line = control_line l out in
          let a = at_own_line (lines h.vis vi M) (lines_once (freedom h.vis) vi) m (stand m (inl refl)) 1 (source Inside out) (inl (refl, refl)) d n e in
          named M 0 out (Some t) (all_left (HasGiven M) (given 0 out (Some t)) (controls_given items) g) d n (zero_is d a.2) a.1),
      controls_typed (l + 1) items (λ m is. stand m (inr is)) (all_right (HasGiven M) (given 0 out (Some t)) (controls_given items) g),
    )
      where
        zero_is : (d : ℕ) → IsIn d (0 ∷ []) → 0 ≡ d
        zero_is d (inl e) = e
        zero_is d (inr none) = absurd none
    controls_typed l (Indicator name t w ∷ items) stand g = controls_typed (l + 1) items stand g

    panel_controls : ControlsTyped fv 1 vi.panel
    panel_controls =
        controls_typed 1 vi.panel (λ m is. in_left m (control_lines 1 vi.panel) (entries_lines (freedom h.vis) es) is)
        (all_left (HasGiven M) (controls_given vi.panel) (entries_given (called_panel h.vis) (panel_type vi.panel) M es)
        (recursion_from_All (HasGiven M) (all_given (called_panel h.vis) vi.panel es M) typing.given))

    -- ---- nodes

    -- a node that shows is a wired indicator of the panel
    shown : (e : Entry) → IsIn e es → (name : List ℕ) (t : Ty) (w : Wire) → e.kind ≡ Shows name t w → (n : List ℕ) × (w ≡ Some n) × (cell_type vi.panel name ≡ Some t)
    shown e is name t w kind =
        ⊎_elim
        (λ (a : IsIn e (panel_entries vi.panel 1)).
        let s = shown_item vi.panel 1 e a in
        let same : Shows s.0 s.1 (Some s.2) ≡ Shows name t w = sym s.4 ∙ kind in
        let names : s.0 ≡ name = ap shown_name same in
        let type_is : s.1 ≡ t = ap (shown_type s.1) same in (
          s.2,
          ap shown_wire (sym same),
          subst (λ (x : List ℕ). cell_type vi.panel x ≡ Some t) names (cell_of_item vi.panel (one_item h main wiring v vi stands) (Indicator s.0 s.1 (Some s.2)) s.3 ∙ ap Some type_is),
        ))
        (λ (a : IsIn e (nodes_entries vi.top.nodes (1 + length vi.panel) 0)). absurd ((top_ranged vi).has e a name t w kind))
        (in_either e (panel_entries vi.panel 1) (nodes_entries vi.top.nodes (1 + length vi.panel) 0) is)
      where
        shown_name : Kind → List ℕ
        shown_name (Shows name t w) = name
        shown_name _ = []

        shown_type : Ty → Kind → Ty
        shown_type u (Shows name t w) = t
        shown_type u _ = u

        shown_wire : Kind → Wire
        shown_wire (Shows name t w) = w
        shown_wire _ = None

    outside_is : (e : Entry) → IsIn e es → (m : Line) → IsIn m (kind_lines (freedom h.vis) e e.kind) → m.outside ≡ e.diagram
    outside_is e is m among =
        let lo : IsLineOf e e.kind m = of_one (IsLineOf e e.kind) (kind_lines (freedom h.vis) e e.kind) (lines_of_kind (freedom h.vis) e e.kind) m among in
        lo.outside

    module _ (p : Program) (called : (name : List ℕ) (c : Vi) → first_vi h.vis name ≡ Some c → (f : FlatVi) × (vi_at p (numbered p.vis name) ≡ Some f) × (f.panel ≡ c.panel)) where
      accept : (e : Entry) → IsIn e es → (k : Kind) → e.kind ≡ k → Facts e k → IsRight h.vis vi.panel M e.line e.diagram k → AcceptsKind p fv e k
      accept e is (Const t literal out) kind f r = const_accepted h.vis vi M has v e t literal out kind f
      accept e is (Apply op inputs outputs) kind f r = apply_accepted h.vis vi M has v e op inputs outputs kind f
      accept e is (Shows name t w) kind f r =
          let s = shown e is name t w kind in
          record {
            cell = s.2;
            value = subst (λ (x : Wire). IsAssignable M e.diagram x t) (sym s.1) (shown_fits h.vis vi M has v e name t s.0 (subst (λ (x : Wire). Facts e (Shows name t x)) s.1 f));
          }
      accept e is (Shared op inputs outputs) kind f r = shared_accepted h.vis vi M has v e op inputs outputs kind r.counted f
      accept e is (Obtain name size item out) kind f r = obtain_accepted h.vis vi M has v e name size item out kind f
      accept e is (Read name out) kind f r =
          let t = the_one (panel_type vi.panel name) (object_there vi.panel name (not_false (names_object vi.panel name) r.located)) in
          record { type = t.0; cell = cell_is name t.0 t.1; places = read_places h.vis vi M has v e name out t.0 kind t.1 f }
        where
          not_false : (b : Bool) → not b ≡ false → b ≡ true
          not_false true e = refl
          not_false false e = absurd (cc e)
      accept e is (Write name w) kind f r =
          let t = the_one (panel_type vi.panel name) (object_there vi.panel name (not_false (names_object vi.panel name) r.located)) in
          record { type = t.0; is = t.1; writes = record { cell = cell_is name t.0 t.1; value = write_fits h.vis vi M has v e name w t.0 t.1 f } }
        where
          not_false : (b : Bool) → not b ≡ false → b ≡ true
          not_false true e = refl
          not_false false e = absurd (cc e)
      accept e is (Call name inputs outputs) kind f r =
          let c = the_one (first_vi h.vis name) (found (first_vi h.vis name) r.called) in
          let q = called name c.0 c.1 in
          let panel_is : called_panel h.vis name ≡ q.0.panel = ap panel_of c.1 ∙ sym q.2 in
          record {
            called = q.0;
            is = q.1;
            inputs_fit = subst (λ (items : List PanelItem). ArgumentsFit M e.diagram inputs items) panel_is (call_inputs_fit h.vis vi M has v e name inputs outputs f);
            places = subst (λ (items : List PanelItem). HaveTypes fv (node_places e) (map Some (indicator_types items))) panel_is (call_places h.vis vi M has v e name inputs outputs kind f);
          }
        where
          found : (o : Option Vi) → not (is_some (option_map arity o)) ≡ false → is_some o ≡ true
          found None e = absurd (cc e)
          found (Some c) e = refl
      accept e is (Loop count stop i ts body) kind f r = loop_accepted h.vis vi M has v e count stop i ts body f (loop_supplied h.vis vi M e is count stop i ts body kind)
      accept e is (Case selector ts arms) kind f r = case_accepted h.vis vi M has v e selector ts arms f (case_supplied h.vis vi M e is selector ts arms kind)
      accept e is (Sequence parts) kind f r = sequence_accepted h.vis vi M has v e parts f (part_supplied h.vis vi M e is parts kind)
      accept e is (InPlace ts body finish) kind f r =
          place_accepted h.vis vi M has v e ts body finish _ f
          (ap (kind_spare_refs e.line (insides es e.diagram)) (sym kind) ∙ spare_own es (none_misplaced h main wiring v vi stands) e is)
          (worked_out h.vis vi M no_turn (none_misplaced h main wiring v vi stands) e is ts body finish kind has (λ d n. refl) fed outside_is)

      -- ---- the VI

      accepted_vi : IsAcceptedVi p fv
      accepted_vi = record {
        spelled = name_spelled;
        sourced = name_sourced;
        panel = λ item is. of_one IsItemProper vi.panel (panel_proper v 1 vi.panel sound_vi.panel panel_spelled) item (from_among item vi.panel is);
        controls = panel_controls;
        supplied = top_supplied h.vis vi M;
        nodes = λ e is. let among = from_among e es is in accept e among e.kind refl (facts e among) (right_node e among);
        clones = clones_few vi.clones vi_spelled.clones;
      }

    -- what a `newref` refers to
    reference_typed : (e : Entry) → IsIn e es → (inputs outputs : List Wire) → e.kind ≡ Shared shared.NewRef inputs outputs
        → (t : Ty) × (wire_type M e.diagram (wire_at inputs 0) ≡ Some t) × IsSpelled (ty.ValueRef t)
    reference_typed e is inputs outputs kind =
        let r : IsRight h.vis vi.panel M e.line e.diagram (Shared shared.NewRef inputs outputs) = subst (λ (k : Kind). IsRight h.vis vi.panel M e.line e.diagram k) kind (right_node e is) in
        let f : Facts e (Shared shared.NewRef inputs outputs) = subst (Facts e) kind (facts e is) in
        let a = shared_accepted h.vis vi M has v e shared.NewRef inputs outputs kind r.counted f in
        let le : depth a.first ≤ 7 = shallow_depth a.first a.fits in
        (a.first, a.known, spelled_cell a.first (omega (arith, le)) (wire_spelled (wire_at inputs 0) a.first a.known))
      where
        wire_spelled : (w : Wire) (t : Ty) → wire_type M e.diagram w ≡ Some t → IsSpelled t
        wire_spelled None t known = absurd (none_some t known)
        wire_spelled (Some n) t known = name_spelled e.diagram n t known

    -- what a queue holds, and how many
    queue_typed : (e : Entry) → IsIn e es → (name : List ℕ) (size : ℤ) (item : Ty) (out : Wire) → e.kind ≡ Obtain name size item out → IsSpelled (ty.QueueRef item) × IsSize size
    queue_typed e is name size item out kind =
        let f : Facts e (Obtain name size item out) = subst (Facts e) kind (facts e is) in
        let a = obtain_accepted h.vis vi M has v e name size item out kind f in
        (a.spelled, size_is size f.spelled.0)

    register_typed : (e : Entry) → IsIn e es → (count stop : Option Wire) (i : Wire) (ts : List Tunnel) (body : ℕ) → e.kind ≡ Loop count stop i ts body → (l : ℕ) (t : Ty) → IsIn (l, t) (kept_registers (e.line + 1) ts) → IsSpelled t
    register_typed e is count stop i ts body kind l t reg =
        let f : Facts e (Loop count stop i ts body) = subst (Facts e) kind (facts e is) in
        kept_spelled (e.line + 1) ts (recursion_from_All IsLineSpelled ts f.spelled) l t reg

  -- ---- programs

  module _ (types_of : ℕ → Types) (typings : (v : ℕ) (vi : Vi) → slice_get h.vis v ≡ Some vi → IsTyping h.vis vi (types_of v)) (linked : Linked) (links : IsLinked (outlines_of h) (number_of h.vis main) linked) where
    abbrev p : Program
    p = program h types_of linked

    -- the VI at a number
    record AtNumber (v : ℕ) (f : FlatVi) : Type 0 where
      vi : Vi
      stands : slice_get h.vis v ≡ Some vi
      flat_is : flat_vi h.vis (types_of v) vi ≡ f

    at_vi : (v : ℕ) (f : FlatVi) → vi_at p v ≡ Some f → AtNumber v f
    at_vi v f e =
        let r = flat_got h.vis types_of 0 h.vis v f e in
        let P : ℕ → Type 0 = λ n. flat_vi h.vis (types_of n) r.0 ≡ f in
        record { vi = r.0; stands = r.1; flat_is = subst P (plus v) r.2 }
      where
        plus : (n : ℕ) → 0 + n ≡ n
        plus n = omega arith

    called_vi : (name : List ℕ) (c : Vi) → first_vi h.vis name ≡ Some c → (f : FlatVi) × (vi_at p (numbered p.vis name) ≡ Some f) × (f.panel ≡ c.panel)
    called_vi name c e =
        let n : ℕ = number_of h.vis name in
        let at = get_flat h.vis types_of 0 h.vis n c (numbered_vi h.vis name c e) in
        (flat_vi h.vis (types_of (0 + n)) c, ap (slice_get p.vis) (flat_number h.vis types_of 0 h.vis name) ∙ at, refl)

    vi_accepted : (v : ℕ) (f : FlatVi) → vi_at p v ≡ Some f → IsAcceptedVi p f
    vi_accepted v f e =
        let a : AtNumber v f = at_vi v f e in
        subst (IsAcceptedVi p) a.flat_is (accepted_vi v a.vi a.stands (types_of v) (typings v a.vi a.stands) p called_vi)

    abbrev met : List Placed
    met = links.met

    main_known : is_some (slice_get (outlines_of h) (number_of h.vis main)) ≡ true
    main_known =
        let m = the_one (first_vi h.vis main) (main_there h main wiring) in
        ap is_some (get_map (outline_of h.vis) h.vis (number_of h.vis main) m.0 (numbered_vi h.vis main m.0 m.1))

    ordered : InOrder (outlines_of h) (number_of h.vis main) met
    ordered = in_order (outlines_of h) (number_of h.vis main) met main_known links.in_order

    -- an `obtain` of a queue's name has the type of the queue
    one_type : (v : ℕ) (vi : Vi) (e : Entry) → slice_get h.vis v ≡ Some vi → IsIn e (entries_of vi) → (name : List ℕ) (size : ℤ) (item : Ty) (out : Wire) → e.kind ≡ Obtain name size item out
        → (q : QueueName) → OfQueue p.vis q → bytes_eq q.name name ≡ true → q.item ≡ item
    one_type v vi e stands is name size item out kind q o named_so =
        let a : AtNumber o.number o.vi = at_vi o.number o.vi o.is in
        let e_in : IsIn o.entry (entries_of a.vi) = subst (λ (f : FlatVi). IsIn o.entry f.entries) (sym a.flat_is) o.stands in
        let k = of_queue o.entry.kind q o.has in
        let mine = obtained h.vis v vi e name size item out stands is kind (equal_queues h main wiring v vi stands e is) in
        let theirs = obtained h.vis o.number a.vi o.entry q.name q.size q.item k.0 a.stands e_in k.1 (equal_queues h main wiring o.number a.vi a.stands o.entry e_in) in
        let same_name : q.name ≡ name = (bytes_eq-Decides q.name name).0 named_so in
        let same_first : theirs.0 ≡ mine.0 = some_same theirs.0 mine.0 (sym theirs.1 ∙ (ap (λ n. first_queue (all_queues h.vis) n) same_name ∙ mine.1)) in
        sym theirs.2 ∙ (ap (λ (x : ℤ × Ty). x.1) same_first ∙ mine.2)
      where
        of_queue : (k : Kind) (q : QueueName) → IsIn q (queue_on k) → (out : Wire) × (k ≡ Obtain q.name q.size q.item out)
        of_queue (Obtain name size item out) q (inl same) =
            (out, subst (λ (x : QueueName). Obtain name size item out ≡ Obtain x.name x.size x.item out) same refl)
        of_queue (Obtain name size item out) q (inr none) = absurd none
        of_queue (Const t literal out) q is = absurd is
        of_queue (Apply op inputs outputs) q is = absurd is
        of_queue (Shows name t w) q is = absurd is
        of_queue (Shared op inputs outputs) q is = absurd is
        of_queue (Read name out) q is = absurd is
        of_queue (Write name w) q is = absurd is
        of_queue (Call name inputs outputs) q is = absurd is
        of_queue (Loop count stop i ts body) q is = absurd is
        of_queue (Case selector ts arms) q is = absurd is
        of_queue (Sequence parts) q is = absurd is
        of_queue (InPlace ts body finish) q is = absurd is

    -- the lines of a loop are lines of its VI
    loop_stands : (v : ℕ) (vi : Vi) (stands : slice_get h.vis v ≡ Some vi) (x : Entry) → IsIn x (entries_of vi) → (count stop : Option Wire) (i : Wire) (ts : List Tunnel) (body : ℕ) → x.kind ≡ Loop count stop i ts body
        → (m : Line) → IsIn m (border_lines x (body ∷ []) [] border (x.line + 1) ts) → IsIn m (lines h.vis vi (types_of 0))
    loop_stands v vi stands x is count stop i ts body kind m among =
        node_line v vi stands (types_of v) (typings v vi stands) x is m (subst (λ (k : Kind). IsIn m (kind_lines (freedom h.vis) x k)) (sym kind) (inr among))

    has_in_space : (k : ℕ) (s : Space) → slice_get p.spaces k ≡ Some s → (f : FlatVi) → vi_at p s.vi ≡ Some f → (vi : Vi) → slice_get h.vis s.vi ≡ Some vi → flat_vi h.vis (types_of s.vi) vi ≡ f
        → (e : Entry) → IsIn e f.entries → (kind : Kind) → e.kind ≡ kind → HasInSpace p k f.types e kind
    has_in_space k s at f there vi stands flat_is e is (Obtain name size item out) kind =
        let e_in : IsIn e (entries_of vi) = subst (λ (x : FlatVi). IsIn e x.entries) (sym flat_is) is in
        queue_there h types_of linked (number_of h.vis main) met ordered links.spaces_are links.order_is k s f e name size item out at there is kind (one_type s.vi vi e stands e_in name size item out kind)
    has_in_space k s at f there vi stands flat_is e is (Call name inputs outputs) kind =
        let e_in : IsIn e (entries_of vi) = subst (λ (x : FlatVi). IsIn e x.entries) (sym flat_is) is in
        call_space h types_of linked (number_of h.vis main) met ordered links.spaces_are k s vi e name inputs outputs at stands e_in kind
    has_in_space k s at f there vi stands flat_is e is (Loop count stop i ts body) kind =
        let own : f.entries ≡ entries_of vi = ap (λ (x : FlatVi). x.entries) (sym flat_is) in
        λ l t among. kept_there h types_of linked k s f vi e count stop i ts body l t at there own (λ x x_is. loop_stands s.vi vi stands x x_is) is kind
        (from_among (l, t) (kept_registers (e.line + 1) ts) among)
    has_in_space k s at f there vi stands flat_is e is (Shared op inputs outputs) kind = by op kind
      where
        by : (op : SharedOp) → e.kind ≡ Shared op inputs outputs → HasShared p k f.types e op inputs
        by shared.NewRef kind =
            let own : f.entries ≡ entries_of vi = ap (λ (x : FlatVi). x.entries) (sym flat_is) in
            let e_in : IsIn e (entries_of vi) = subst (λ (x : FlatVi). IsIn e x.entries) (sym flat_is) is in
            let r = reference_typed s.vi vi stands (types_of s.vi) (typings s.vi vi stands) e e_in inputs outputs kind in
            let typed : wire_type f.types e.diagram (wire_at inputs 0) ≡ Some r.0 = subst (λ (x : FlatVi). wire_type x.types e.diagram (wire_at inputs 0) ≡ Some r.0) flat_is r.1 in
            cell_there h types_of linked k s f vi e inputs outputs r.0 at there own is kind typed
        by shared.Enqueue kind = tt
        by shared.Dequeue kind = tt
        by shared.Release kind = tt
        by shared.Size kind = tt
        by shared.DelRef kind = tt
    has_in_space k s at f there vi stands flat_is e is (Const t literal out) kind = tt
    has_in_space k s at f there vi stands flat_is e is (Apply op inputs outputs) kind = tt
    has_in_space k s at f there vi stands flat_is e is (Shows name t w) kind = tt
    has_in_space k s at f there vi stands flat_is e is (Read name out) kind = tt
    has_in_space k s at f there vi stands flat_is e is (Write name w) kind = tt
    has_in_space k s at f there vi stands flat_is e is (Case selector ts arms) kind = tt
    has_in_space k s at f there vi stands flat_is e is (Sequence parts) kind = tt
    has_in_space k s at f there vi stands flat_is e is (InPlace ts body finish) kind = tt

    -- a data space's VI is there
    space_vi_there : (k : ℕ) (s : Space) → slice_get p.spaces k ≡ Some s → (f : FlatVi) × (vi_at p s.vi ≡ Some f)
    space_vi_there k s at =
        let q = get_mapped (λ (x : Placed). x.space) met k s (ap (λ xs. slice_get xs k) (sym links.spaces_are) ∙ at) in
        let known : is_some (slice_get (outlines_of h) q.0.space.vi) ≡ true = of_one (λ (x : Placed). is_some (slice_get (outlines_of h) x.space.vi) ≡ true) met ordered.known q.0 (in_get met k q.0 q.1) in
        let known_s : is_some (slice_get (outlines_of h) s.vi) ≡ true = subst (λ (x : Space). is_some (slice_get (outlines_of h) x.vi) ≡ true) q.2 known in
        let o = the_one (slice_get (outlines_of h) s.vi) known_s in
        let vi = get_mapped (outline_of h.vis) h.vis s.vi o.0 o.1 in
        (flat_vi h.vis (types_of (0 + s.vi)) vi.0, get_flat h.vis types_of 0 h.vis s.vi vi.0 vi.1)

    space_accepted : (k : ℕ) (s : Space) → slice_get p.spaces k ≡ Some s → IsAcceptedSpace p k s
    space_accepted k s at =
        let f = space_vi_there k s at in
        let a : AtNumber s.vi f.0 = at_vi s.vi f.0 f.1 in
        record {
          vi = f.0;
          is = f.1;
          nodes = λ e is. has_in_space k s at f.0 f.1 a.vi a.stands a.flat_is e (from_among e f.0.entries is) e.kind refl;
        }

    queue_accepted : (q : QueueName) → IsIn q p.queues → IsSpelled (ty.QueueRef q.item) × IsSize q.size
    queue_accepted q is =
        let o : OfQueue p.vis q = of_queues linked.order 0 p.vis q (first_kept (frames.queues_in linked.order 0 p.vis) [] q is) in
        let a : AtNumber o.number o.vi = at_vi o.number o.vi o.is in
        let e_in : IsIn o.entry (entries_of a.vi) = subst (λ (f : FlatVi). IsIn o.entry f.entries) (sym a.flat_is) o.stands in
        by o.entry.kind refl o.has (λ name size item out kind. queue_typed o.number a.vi a.stands (types_of o.number) (typings o.number a.vi a.stands) o.entry e_in name size item out kind)
      where
        by : (k : Kind) → k ≡ k → IsIn q (queue_on k) → ((name : List ℕ) (size : ℤ) (item : Ty) (out : Wire) → k ≡ Obtain name size item out → IsSpelled (ty.QueueRef item) × IsSize size)
            → IsSpelled (ty.QueueRef q.item) × IsSize q.size
        by (Obtain name size item out) e (inl same) f = subst (λ (x : QueueName). IsSpelled (ty.QueueRef x.item) × IsSize x.size) same (f name size item out refl)
        by (Obtain name size item out) e (inr none) f = absurd none
        by (Const t literal out) e is f = absurd is
        by (Apply op inputs outputs) e is f = absurd is
        by (Shows name t w) e is f = absurd is
        by (Shared op inputs outputs) e is f = absurd is
        by (Read name out) e is f = absurd is
        by (Write name w) e is f = absurd is
        by (Call name inputs outputs) e is f = absurd is
        by (Loop count stop i ts body) e is f = absurd is
        by (Case selector ts arms) e is f = absurd is
        by (Sequence parts) e is f = absurd is
        by (InPlace ts body finish) e is f = absurd is

    cell_accepted : (c : CellPlace) → IsIn c p.cells → IsSpelled (ty.ValueRef c.content)
    cell_accepted c is =
        let r : InSpace CellPlace (λ space w x. cell_on w.types space x x.kind) p.vis 0 linked.spaces c = of_space (λ space w x. cell_on w.types space x x.kind) p.vis 0 linked.spaces c is in
        let o : OfCell r.vi.types (0 + r.number) r.entry r.entry.kind c = of_cell r.vi.types (0 + r.number) r.entry r.entry.kind c r.has in
        let a : AtNumber r.space.vi r.vi = at_vi r.space.vi r.vi r.vi_is in
        let e_in : IsIn r.entry (entries_of a.vi) = subst (λ (f : FlatVi). IsIn r.entry f.entries) (sym a.flat_is) r.stands in
        let t = reference_typed r.space.vi a.vi a.stands (types_of r.space.vi) (typings r.space.vi a.vi a.stands) r.entry e_in o.inputs o.outputs o.kind in
        let content : wire_type (types_of r.space.vi) r.entry.diagram (wire_at o.inputs 0) ≡ Some c.content =
        subst (λ (f : FlatVi). wire_type f.types r.entry.diagram (wire_at o.inputs 0) ≡ Some c.content) (sym a.flat_is) o.content in
        subst (λ (x : Ty). IsSpelled (ty.ValueRef x)) (some_same t.0 c.content (sym t.1 ∙ content)) t.2

    kept_accepted : (c : KeptPlace) → IsIn c p.kept → IsSpelled c.content
    kept_accepted c is =
        let r : InSpace KeptPlace (λ space w x. kept_on space x x.kind) p.vis 0 linked.spaces c = of_space (λ space w x. kept_on space x x.kind) p.vis 0 linked.spaces c is in
        let o : OfKept (0 + r.number) r.entry r.entry.kind c = of_kept (0 + r.number) r.entry r.entry.kind c r.has in
        let a : AtNumber r.space.vi r.vi = at_vi r.space.vi r.vi r.vi_is in
        let e_in : IsIn r.entry (entries_of a.vi) = subst (λ (f : FlatVi). IsIn r.entry f.entries) (sym a.flat_is) r.stands in
        register_typed r.space.vi a.vi a.stands (types_of r.space.vi) (typings r.space.vi a.vi a.stands) r.entry e_in o.count o.stop o.iteration o.borders o.body o.kind c.line c.content o.register

    pub accepted_program : IsAccepted p
    accepted_program = record {
      vis = vi_accepted;
      spaces = space_accepted;
      main = main_space h types_of linked (number_of h.vis main) met ordered links.spaces_are links.main_is;
      queues = λ q is. queue_accepted q (from_among q p.queues is);
      cells = λ c is. cell_accepted c (from_among c p.cells is);
      kept = λ c is. kept_accepted c (from_among c p.kept is);
      pools = λ n is. let r = pool_there linked.order linked.main 0 p.vis n (from_among n p.pools is) in pool_is n r.0 r.1 r.2;
    }
      where
        pool_is : (n k : ℕ) → n ≡ 0 + k → is_some (slice_get p.vis k) ≡ true → is_some (vi_at p n) ≡ true
        pool_is n k e there = let same : k ≡ n = omega (arith, e) in subst (λ (m : ℕ). is_some (slice_get p.vis m) ≡ true) same there

-- the law
pub are_accepted : AreAccepted
are_accepted h main p spelled own unbroken is =
    subst IsAccepted (sym is.program_is)
    (accepted_program h main unbroken (recursion_from_All IsViSpelled h.vis spelled) (recursion_from_All HasOwnLines h.vis own) is.types is.typing is.linked is.links)
