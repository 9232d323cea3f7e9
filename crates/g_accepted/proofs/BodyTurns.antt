-- In a body in place no step waits for itself: each step's turn comes.
use Rattle.std.proofs.Common.{◌≡◌, ◌<◌, ◌≤◌, inl, inr, ⊎_elim, ℕ, zero, suc, ◌+◌, Bool, true, false, List, [], ◌∷◌, ◌++◌, Some, refl, ap, sym, ◌∙◌, subst, arith}
use Rattle.g_diagram.specs.declared.hierarchy.Vi.{Vi}
use Rattle.g_diagram.specs.Leads.{Leads}
use Rattle.g_diagram.specs.Lines.{Entry, entries_of}
use Rattle.g_diagram.specs.Operands.{Side, Outside, Inside, Operand, Line, Freedom, kind_lines, entries_lines, control_lines}
use Rattle.g_diagram.specs.Ports.{Port, ports_of, freedom, has_wire}
use Rattle.g_typing.specs.Types.{Types}
use Rattle.g_typing.proofs.Founded.{Ends, ends, all_end, leads_on}
use Rattle.g_typing.proofs.Joined.{HasOperand, HasPort, HasLine, line_left, line_right, port_of, joined}
use Rattle.g_typing.proofs.Nesting.{nested, line_count}
use Rattle.g_typing.proofs.Ready.{IsNested}
use Rattle.g_typing.proofs.Roles.{bodies}
use Rattle.g_border.specs.declared.place.WireSource.{WireSource}
use Rattle.g_border.specs.Readers.{source_of, lines_sources}
use Rattle.g_border.specs.Bodies.{inside_of}
use Rattle.g_frames.specs.Program.{FlatVi}
use Rattle.g_typed_states.specs.Bodies.{BodyStep, kind_body_steps, steps_in, Comes, comes}
use Rattle.g_accepted.proofs.Facts.{IsIn, in_left, in_right, of_one}
use Rattle.g_accepted.proofs.Laid.{lines_once}
use Rattle.g_accepted.proofs.Placed.{flat, lines}
use Rattle.g_accepted.proofs.Sources.{IsSide, at_own_line}
use Rattle.g_accepted.proofs.Structures.{from_among}
use Rattle.g_accepted.proofs.Supplied.{IsLineOf, lines_of_kind, one_owner, inner_after, to_of, to_body}
use Rattle.g_accepted.proofs.BodyReady.{of_range, step_origin, OfSources, of_lines_sources, has_operand, at_in, own_nodes, ReadsOut, StepRole, opens, closes, step_role}

-- the lines of a node are lines of the VI
entry_line : (free : Freedom) (es : List Entry) (e : Entry) (l : Line) → IsIn e es → IsIn l (kind_lines free e e.kind) → IsIn l (entries_lines free es)
entry_line free [] e l is h = absurd is
entry_line free (x ∷ es) e l (inl same) h = in_left l (kind_lines free x x.kind) (entries_lines free es) (subst (λ (y : Entry). IsIn l (kind_lines free y y.kind)) (sym same) h)
entry_line free (x ∷ es) e l (inr is) h = in_right l (kind_lines free x x.kind) (entries_lines free es) (entry_line free es e l is h)

entry_port : (free : Freedom) (c : Bool) (n : List ℕ) (es : List Entry) (e : Entry) → IsIn e es → HasLine c e.line e.diagram n (kind_lines free e e.kind) → HasLine c e.line e.diagram n (entries_lines free es)
entry_port free c n [] e is h = absurd is
entry_port free c n (x ∷ es) e (inl same) h =
    line_left c e.line e.diagram n (kind_lines free x x.kind) (entries_lines free es)
    (let P : Entry → Type 0 = λ (y : Entry). HasLine c e.line e.diagram n (kind_lines free y y.kind) in subst P (sym same) h)
entry_port free c n (x ∷ es) e (inr is) h = line_right c e.line e.diagram n (kind_lines free x x.kind) (entries_lines free es) (entry_port free c n es e is h)

module _ (vis : List Vi) (vi : Vi) (M : Types) (b f : ℕ) (apart : (v : ℕ) → Leads (has_wire (ports_of vis vi)) v v → ⊥) where
  abbrev free : Freedom
  free = freedom vis

  abbrev fv : FlatVi
  fv = flat vis vi M

  abbrev es : List Entry
  es = entries_of vi

  abbrev ns : List Entry
  ns = inside_of b f es

  abbrev all : List BodyStep
  all = steps_in fv b f

  abbrev ports : List Port
  ports = ports_of vis vi

  abbrev count : ℕ
  count = line_count vi

  nest : IsNested count es
  nest = nested vi

  pub vi_line : (e : Entry) → IsIn e es → (l : Line) → IsIn l (kind_lines free e e.kind) → IsIn l (lines vis vi M)
  vi_line e is l h = in_right l (control_lines 1 vi.panel) (entries_lines free es) (entry_line free es e l is h)

  port : (c : Bool) (n : List ℕ) (e : Entry) → IsIn e es → HasLine c e.line e.diagram n (kind_lines free e e.kind) → HasPort c e.line e.diagram n ports
  port c n e is h =
      port_of c e.line e.diagram n (control_lines 1 vi.panel ++ entries_lines free es)
      (line_right c e.line e.diagram n (control_lines 1 vi.panel) (entries_lines free es) (entry_port free c n es e is h))

  -- what stands at a place of a node
  record AtPlace (e : Entry) (s : Side) (d : ℕ) (n : List ℕ) : Type 0 where
    line : Line
    stands : IsIn line (kind_lines free e e.kind)
    operand : Operand
    at : IsIn operand line.operands
    source : operand.is_source ≡ true
    side : operand.side ≡ s
    wire : operand.wire ≡ Some n
    diagram : IsSide d s line

  at_place : (e : Entry) → IsIn e es → (s : Side) (w : WireSource) → IsIn w (lines_sources s (kind_lines free e e.kind)) → (d : ℕ) (n : List ℕ) → source_of fv.ports d n ≡ Some w → AtPlace e s d n
  at_place e is s w among d n found =
      let o : OfSources s (kind_lines free e e.kind) w = of_lines_sources s (kind_lines free e e.kind) w among in
      let here : source_of fv.ports d n ≡ Some (record { line = o.line.line; operand = w.operand }) =
      found ∙ ap (λ m. Some (record { line = m; operand = w.operand })) (sym o.number) in
      let a = at_own_line (lines vis vi M) (lines_once free vi) o.line (vi_line e is o.line o.stands) w.operand o.operand o.at d n here in
      record {
        line = o.line;
        stands = o.stands;
        operand = o.operand;
        at = at_in 1 o.line.operands w.operand o.operand o.at;
        source = a.0;
        side = o.side;
        wire = a.1;
        diagram = subst (λ (x : Side). IsSide d x o.line) o.side a.2;
      }

  -- a name with its source at a node's outputs is of the node's diagram
  gives_out : (e : Entry) → IsIn e es → (w : WireSource) → IsIn w (lines_sources Outside (kind_lines free e e.kind)) → (d : ℕ) (n : List ℕ) → source_of fv.ports d n ≡ Some w
      → (e.diagram ≡ d) × HasPort true e.line d n ports
  gives_out e is w among d n found =
      let a : AtPlace e Outside d n = at_place e is Outside w among d n found in
      let lo : IsLineOf e e.kind a.line = of_one (IsLineOf e e.kind) (kind_lines free e e.kind) (lines_of_kind free e e.kind) a.line a.stands in
      let same : e.diagram ≡ d = sym lo.outside ∙ a.diagram in
      let line_is : HasLine true e.line e.diagram n (kind_lines free e e.kind) = on_lines (kind_lines free e e.kind) a lo a.stands in
      (same, subst (λ (x : ℕ). HasPort true e.line x n ports) same (port true n e is line_is))
    where
      on_lines : (ls : List Line) (a : AtPlace e Outside d n) → IsLineOf e e.kind a.line → IsIn a.line ls → HasLine true e.line e.diagram n ls
      on_lines [] a lo is = absurd is
      on_lines (l ∷ ls) a lo (inl same) =
          inl (subst (λ (m : Line). (m.node ≡ e.line) × (m.outside ≡ e.diagram) × HasOperand true n m.operands) (sym same)
          (of_one (λ (m : Line). m.node ≡ e.line) (kind_lines free e e.kind) (own_nodes free e e.kind) a.line a.stands, lo.outside, has_operand true n a.line.operands a.operand a.at a.source a.side a.wire))
      on_lines (l ∷ ls) a lo (inr is) = inr (on_lines ls a lo is)

  -- and one with its source at what its lines give inside is of a diagram inside
  gives_in : (e : Entry) → IsIn e es → (w : WireSource) → IsIn w (lines_sources Inside (kind_lines free e e.kind)) → (d : ℕ) (n : List ℕ) → source_of fv.ports d n ≡ Some w → IsIn d (bodies e.kind)
  gives_in e is w among d n found =
      let a : AtPlace e Inside d n = at_place e is Inside w among d n found in
      let lo : IsLineOf e e.kind a.line = of_one (IsLineOf e e.kind) (kind_lines free e e.kind) (lines_of_kind free e e.kind) a.line a.stands in
      lo.inside d a.diagram

  -- ---- turns

  abbrev IsReady : Entry → Type 0
  IsReady e = (s : BodyStep) → IsIn s (kind_body_steps e e.kind) → Comes fv all s

  -- a step that gives inside
  abbrev IsOpening : Entry → BodyStep → Type 0
  IsOpening e s = ((d : ℕ) (n : List ℕ) → IsIn (d, Some n) s.reads → ReadsOut free e e.kind d n) × ((w : WireSource) → IsIn w s.places → IsIn w (lines_sources Inside (kind_lines free e e.kind)))

  abbrev Wired : ℕ → List ℕ → Type 0
  Wired d n = (t : BodyStep) → IsIn t all → (w : WireSource) → source_of fv.ports d n ≡ Some w → IsIn w t.places → Comes fv all t

  abbrev Opened : ℕ → Type 0
  Opened d = (e : Entry) → IsIn e ns → IsIn d (bodies e.kind) → (s : BodyStep) → IsIn s (kind_body_steps e e.kind) → IsOpening e s → Comes fv all s

  abbrev Done : ℕ → Type 0
  Done d = (e : Entry) → IsIn e ns → e.diagram ≡ d → IsReady e

  whole_of : (e : Entry) → IsIn e ns → IsIn e es
  whole_of e is = (of_range b f es e is).0

  -- a step that gives a name of a diagram is of the node whose diagram it is, or of a node of the diagram
  by_giver : (d : ℕ) (n : List ℕ) (t : BodyStep) → IsIn t all → (w : WireSource) → source_of fv.ports d n ≡ Some w → IsIn w t.places
      → ((e : Entry) → IsIn e ns → IsIn d (bodies e.kind) → IsIn t (kind_body_steps e e.kind) → IsOpening e t → Comes fv all t)
      → ((e : Entry) → IsIn e ns → e.diagram ≡ d → HasPort true e.line d n ports → IsIn t (kind_body_steps e e.kind) → Comes fv all t) → Comes fv all t
  by_giver d n t is w found gives at_border at_node =
      let o = step_origin ns t is in
      by o.0 o.1 o.2 (step_role free o.0 o.0.kind refl t o.2)
    where
      by : (e : Entry) → IsIn e ns → IsIn t (kind_body_steps e e.kind) → StepRole free e e.kind t → Comes fv all t
      by e e_is step (opens reads places) = at_border e e_is (gives_in e (whole_of e e_is) w (places w gives) d n found) step (reads, places)
      by e e_is step (closes reads places) = let g = gives_out e (whole_of e e_is) w (places w gives) d n found in at_node e e_is g.0 g.1 step

  wired : (d : ℕ) (n : List ℕ) → Opened d → Done d → Wired d n
  wired d n opened done t is w found gives =
      by_giver d n t is w found gives (λ e e_is body step opening. opened e e_is body t step opening) (λ e e_is same p step. done e e_is same t step)

  module _ (e : Entry) (is : IsIn e ns) (outer : (n : List ℕ) → HasPort false e.line e.diagram n ports → Wired e.diagram n)
      (inner : (x : ℕ) → IsIn x (bodies e.kind) → Opened x → Done x) where
    read_out : (d : ℕ) (n : List ℕ) → ReadsOut free e e.kind d n → (t : BodyStep) → IsIn t all → (w : WireSource) → source_of fv.ports d n ≡ Some w → IsIn w t.places → Comes fv all t
    read_out d n r t t_is w found gives =
        outer n (port false n e (whole_of e is) r.1) t t_is w (subst (λ (x : ℕ). source_of fv.ports x n ≡ Some w) (sym r.0) found) gives

    opening_comes : (s : BodyStep) → IsOpening e s → Comes fv all s
    opening_comes s o = comes s (λ t t_is feeds.
        read_out feeds.diagram feeds.name (o.0 feeds.diagram feeds.name (from_among (feeds.diagram, Some feeds.name) s.reads feeds.reads)) t (from_among t all t_is) feeds.source feeds.is
        (from_among feeds.source t.places feeds.gives))

    all_opened_inside : (x : ℕ) → IsIn x (bodies e.kind) → Opened x
    all_opened_inside x among g g_is also s step opening =
        let same : g ≡ e = one_owner vis vi M e g (whole_of e is) (whole_of g g_is) x among also in
        let P : Entry → Type 0 = λ (y : Entry). IsOpening y s in
        opening_comes s (subst P same opening)

    entry_ready : IsReady e
    entry_ready s step = by (step_role free e e.kind refl s step)
      where
        by : StepRole free e e.kind s → Comes fv all s
        by (opens reads places) = opening_comes s (reads, places)
        by (closes reads places) = comes s (λ t t_is feeds.
            ⊎_elim
            (λ (r : ReadsOut free e e.kind feeds.diagram feeds.name).
            read_out feeds.diagram feeds.name r t (from_among t all t_is) feeds.source feeds.is (from_among feeds.source t.places feeds.gives))
            (λ body.
            let o : Opened feeds.diagram = all_opened_inside feeds.diagram body in
            wired feeds.diagram feeds.name o (inner feeds.diagram body o) t (from_among t all t_is) feeds.source feeds.is (from_among feeds.source t.places feeds.gives))
            (reads feeds.diagram feeds.name (from_among (feeds.diagram, Some feeds.name) s.reads feeds.reads)))

  abbrev R : ℕ → ℕ → Type 0
  R = Leads (has_wire ports)

  one_wire : (x y : ℕ) → has_wire ports x y ≡ true → R x y
  one_wire x y h = (zero, h)

  -- the nodes of a diagram come where its border has come, and the diagrams inside them
  node_ready : (d : ℕ) → Opened d → ((e : Entry) → IsIn e ns → e.diagram ≡ d → (x : ℕ) → IsIn x (bodies e.kind) → Opened x → Done x)
      → (v : ℕ) → Ends R count v → (e : Entry) → IsIn e ns → e.diagram ≡ d → e.line ≡ v → IsReady e
  node_ready d opened deeper v (ends _ h) e is same at =
      entry_ready e is
      (λ n p t t_is w found gives.
      let found_d : source_of fv.ports d n ≡ Some w = (let P : ℕ → Type 0 = λ y. source_of fv.ports y n ≡ Some w in subst P same found) in
      let q : HasPort false e.line d n ports = (let P : ℕ → Type 0 = λ y. HasPort false e.line y n ports in subst P same p) in
      by_giver d n t t_is w found_d gives
      (λ g g_is body step opening. opened g g_is body t step opening)
      (λ g g_is where_ source step.
      node_ready d opened deeper g.line
      (h g.line (nest.lines g (to_of vis vi M g es (whole_of g g_is))) (let P : ℕ → Type 0 = λ y. R g.line y in subst P at (one_wire g.line e.line (joined g.line e.line d n ports source q))))
      g g_is where_ refl t step))
      (deeper e is same)

  chains : (v : ℕ) → Ends R count v
  chains v = all_end R (leads_on (has_wire ports)) apart count v

  diagram_ready : (k d : ℕ) → count ≤ d + k → Opened d → Done d
  diagram_ready zero d le opened e is same =
      node_ready d opened
      (λ g g_is w x among o. absurd (let u = inner_after vis vi M g (whole_of g g_is) x among in let y : x < count = nest.below g (to_of vis vi M g es (whole_of g g_is)) x (to_body vis vi M x (bodies g.kind) among) in omega (arith, w, u, y, le)))
      e.line (chains e.line) e is same refl
  diagram_ready (suc k) d le opened e is same =
      node_ready d opened
      (λ g g_is w x among o. diagram_ready k x (let u = inner_after vis vi M g (whole_of g g_is) x among in omega (arith, w, u, le)) o)
      e.line (chains e.line) e is same refl

  all_opened : (m d : ℕ) → d < m → Opened d
  all_opened zero d lt e is among s step opening = absurd (omega (arith, lt))
  all_opened (suc m) d lt e is among s step opening =
      diagram_ready count e.diagram (omega arith) (all_opened m e.diagram (let u = inner_after vis vi M e (whole_of e is) d among in omega (arith, lt, u))) e is refl s step

  -- each step's turn comes
  pub all_come : (s : BodyStep) → IsIn s all → Comes fv all s
  all_come s is =
      let o = step_origin ns s is in
      diagram_ready count o.0.diagram (omega arith) (all_opened (suc o.0.diagram) o.0.diagram (omega arith)) o.0 o.1 refl s o.2
