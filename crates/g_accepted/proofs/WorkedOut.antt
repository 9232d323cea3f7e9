-- A body in place can be worked out: what its steps read is given, and each step's turn comes.
use Rattle.std.proofs.Common.{◌≡◌, ◌⊎◌, ◌<◌, ◌≤◌, inl, inr, ⊎_elim, ℕ, ◌+◌, Bool, true, false, List, [], ◌∷◌, ◌++◌, map, Some, refl, ap, sym, ◌∙◌, subst, arith}
use Rattle.std.specs.Prelude.{is_some}
use Rattle.std.specs.List.{AllByRecursion}
use Rattle.std.proofs.lemmas.Bool.{false≢true}
use Rattle.g_diagram.specs.declared.node.Tunnel.{Tunnel}
use Rattle.g_diagram.specs.declared.hierarchy.Vi.{Vi}
use Rattle.g_diagram.specs.Leads.{Leads}
use Rattle.g_diagram.specs.Lines.{Wire, Arm, Entry, Kind, Const, Apply, Shows, Shared, Obtain, Read, Write, Call, Loop, Case, Sequence, InPlace, entries_of}
use Rattle.g_diagram.specs.Operands.{Side, Outside, Inside, Operand, Line, Freedom, source, consumer, free_consumer, border, case_border, border_lines, give_line, kind_lines}
use Rattle.g_diagram.specs.Ports.{ports_of, freedom, has_wire}
use Rattle.g_rules_lines.specs.InPlaceBodies.{may_stand_in_place, kind_spare_refs, misplaced}
use Rattle.g_typing.specs.Types.{Types}
use Rattle.g_typing.proofs.Roles.{bodies}
use Rattle.g_border.specs.declared.place.WireSource.{WireSource}
use Rattle.g_border.specs.Readers.{source_of, lines_sources, wires_taken_on, inputs_of, node_lines}
use Rattle.g_border.specs.Bodies.{in_diagram, arms_read, inside_of}
use Rattle.g_frames.specs.Program.{FlatVi}
use Rattle.g_infer_laws.proofs.Rules.{Fed}
use Rattle.g_infer_laws.proofs.Held.{OnSide, OperandHolds, OperandsHold, LineHolds, LinesHold}
use Rattle.g_typed_states.specs.Places.{Among, node_places, lines_places}
use Rattle.g_typed_states.specs.Bodies.{BodyStep, kind_body_steps, steps_in, IsStepPlace, IsFed, IsUnreferred, IsWorkedOut}
use Rattle.g_accepted.proofs.Facts.{IsIn, in_either, all_right, of_one, the_one}
use Rattle.g_accepted.proofs.Placed.{flat}
use Rattle.g_accepted.proofs.Nodes.{IsKnown}
use Rattle.g_accepted.proofs.Structures.{from_among, to_among, no_refs}
use Rattle.g_accepted.proofs.Supplied.{Located, control, outer, inner, located, in_lines_sources, border_sources, one_owner}
use Rattle.g_accepted.proofs.Owners.{case_inside_sources, border_inside}
use Rattle.g_accepted.proofs.Inside.{IsPlaced, placed}
use Rattle.g_accepted.proofs.Gathered.{stands_in_place, spare_inside}
use Rattle.g_accepted.proofs.BodyReady.{in_range, of_range, step_origin, step_of, Takes, taken_on, in_one, ReadsOut, StepRole, opens, closes, step_role, case_outside_sources}
use Rattle.g_accepted.proofs.BodyTurns.{all_come}

-- ---- what steps read is given

module _ (G : ℕ → List ℕ → Type 0) where
  takes_outside : (n : List ℕ) (ls : List Line) → LinesHold (Fed G) ls → (t : Takes Outside n ls) → G t.line.outside n
  takes_outside n ls h t =
      let here : OperandsHold (Fed G) t.line t.line.operands = of_one (LineHolds (Fed G)) ls h t.line t.stands in
      let o : OnSide (λ d. Fed G t.operand.is_source t.operand.is_free d t.operand.wire) t.operand.side t.line = of_one (OperandHolds (Fed G) t.line) t.line.operands here t.operand t.at in
      by t.operand.is_source t.operand.side t.operand.wire t.consumer t.side t.wire o
    where
      by : (c : Bool) (s : Side) (w : Wire) → c ≡ false → s ≡ Outside → w ≡ Some n → OnSide (λ d. Fed G c t.operand.is_free d w) s t.line → G t.line.outside n
      by c s w e f g o =
          subst (λ (x : Wire). Fed G false t.operand.is_free t.line.outside x) g
          (subst (λ (x : Bool). Fed G x t.operand.is_free t.line.outside w) e (subst (λ (x : Side). OnSide (λ d. Fed G c t.operand.is_free d w) x t.line) f o))

  takes_inside : (n : List ℕ) (ls : List Line) → LinesHold (Fed G) ls → (t : Takes Inside n ls) → (d : ℕ) → IsIn d t.line.inside → G d n
  takes_inside n ls h t d among =
      let here : OperandsHold (Fed G) t.line t.line.operands = of_one (LineHolds (Fed G)) ls h t.line t.stands in
      let o : OnSide (λ d. Fed G t.operand.is_source t.operand.is_free d t.operand.wire) t.operand.side t.line = of_one (OperandHolds (Fed G) t.line) t.line.operands here t.operand t.at in
      by t.operand.is_source t.operand.side t.operand.wire t.consumer t.side t.wire o
    where
      by : (c : Bool) (s : Side) (w : Wire) → c ≡ false → s ≡ Inside → w ≡ Some n → OnSide (λ d. Fed G c t.operand.is_free d w) s t.line → G d n
      by c s w e f g o =
          let all : AllByRecursion (λ d. Fed G c t.operand.is_free d w) t.line.inside = subst (λ (x : Side). OnSide (λ d. Fed G c t.operand.is_free d w) x t.line) f o in
          subst (λ (x : Wire). Fed G false t.operand.is_free d x) g
          (subst (λ (x : Bool). Fed G x t.operand.is_free d w) e (of_one (λ d. Fed G c t.operand.is_free d w) t.line.inside all d among))

  inputs_given : (l : Line) (ws : List Wire) (os : List Operand) (n : List ℕ) → OperandsHold (Fed G) l (map (consumer Outside) ws ++ os) → IsIn (Some n) ws → G l.outside n
  inputs_given l [] os n h is = absurd is
  inputs_given l (w ∷ ws) os n h (inl same) = subst (λ (x : Wire). Fed G false false l.outside x) same h.0
  inputs_given l (w ∷ ws) os n h (inr is) = inputs_given l ws os n h.1 is

  gives_given : (e : Entry) (arm : Arm) (ws : List Wire) (n : List ℕ) → OperandsHold (Fed G) (give_line e arm) (map (free_consumer Inside) ws) → IsIn (Some n) ws → G arm.body n
  gives_given e arm [] n h is = absurd is
  gives_given e arm (w ∷ ws) n h (inl same) = subst (λ (x : Wire). Fed G false true arm.body x) same h.0.0
  gives_given e arm (w ∷ ws) n h (inr is) = gives_given e arm ws n h.1 is

  arms_given : (e : Entry) (arms : List Arm) (d : ℕ) (n : List ℕ) → LinesHold (Fed G) (map (give_line e) arms) → IsIn (d, Some n) (arms_read arms) → G d n
  arms_given e [] d n h is = absurd is
  arms_given e (arm ∷ arms) d n h is =
      ⊎_elim
      (λ here. let r = in_one arm.body arm.gives d n here in subst (λ (x : ℕ). G x n) r.0 (gives_given e arm arm.gives n h.0 r.1))
      (λ later. arms_given e arms d n h.1 later)
      (in_either (d, Some n) (in_diagram arm.body arm.gives) (arms_read arms) is)

  -- the lines of a structure in place have its body inside
  place_inside : (e : Entry) (b l : ℕ) (ts : List Tunnel) (m : Line) → IsIn m (border_lines e (b ∷ []) [] border l ts) → IsIn b m.inside
  place_inside e b l ts m is = subst (λ (bs : List ℕ). IsIn b bs) (sym (border_inside e (b ∷ []) [] l ts m is)) (inl refl)

  outer_given : (free : Freedom) (e : Entry) (k : Kind) → LinesHold (Fed G) (kind_lines free e k) → ((m : Line) → IsIn m (kind_lines free e k) → m.outside ≡ e.diagram) → (ws : List Wire)
      → ws ≡ wires_taken_on Outside (kind_lines free e k) → (d : ℕ) (n : List ℕ) → IsIn (d, Some n) (in_diagram e.diagram ws) → G d n
  outer_given free e k h own ws are d n is =
      let r = in_one e.diagram ws d n is in
      let t : Takes Outside n (kind_lines free e k) = taken_on Outside n (kind_lines free e k) (subst (λ (xs : List Wire). IsIn (Some n) xs) are r.1) in
      subst (λ (x : ℕ). G x n) (own t.line t.stands ∙ r.0) (takes_outside n (kind_lines free e k) h t)

  -- what a step of a node reads
  pub reads_given : (free : Freedom) (e : Entry) (k : Kind) → e.kind ≡ k → LinesHold (Fed G) (kind_lines free e k) → ((m : Line) → IsIn m (kind_lines free e k) → m.outside ≡ e.diagram)
      → (s : BodyStep) → IsIn s (kind_body_steps e k) → (d : ℕ) (n : List ℕ) → IsIn (d, Some n) s.reads → G d n
  reads_given free e (Const t literal out) kind h own s (inl same) d n is = absurd (subst (λ (x : BodyStep). IsIn (d, Some n) x.reads) (sym same) is)
  reads_given free e (Const t literal out) kind h own s (inr none) d n is = absurd none
  reads_given free e (Apply op inputs outputs) kind h own s (inl same) d n is =
      let r = in_one e.diagram inputs d n (subst (λ (x : BodyStep). IsIn (d, Some n) x.reads) (sym same) is) in
      subst (λ (x : ℕ). G x n) r.0 (inputs_given _ inputs (map (source Outside) outputs) n h.0 r.1)
  reads_given free e (Apply op inputs outputs) kind h own s (inr none) d n is = absurd none
  reads_given free e (Case selector ts arms) kind h own s (inl same) d n is =
      let k : Kind = Case selector ts arms in
      outer_given free e k h own (inputs_of e) (ap (λ (x : Kind). wires_taken_on Outside (kind_lines (λ n i. false) e x)) kind) d n (subst (λ (x : BodyStep). IsIn (d, Some n) x.reads) (sym same) is)
  reads_given free e (Case selector ts arms) kind h own s (inr (inl same)) d n is =
      let ls : List Line = border_lines e (map (λ a. a.body) arms) [] case_border (e.line + 1) ts in
      ⊎_elim
      (λ (q : (e.diagram, selector) ≡ (d, Some n)).
      subst (λ (x : ℕ). G x n) (ap (λ (y : ℕ × Wire). y.0) q) (subst (λ (x : Wire). Fed G false false e.diagram x) (ap (λ (y : ℕ × Wire). y.1) q) h.0.0))
      (λ a. arms_given e arms d n (all_right (LineHolds (Fed G)) ls (map (give_line e) arms) h.1) a)
      (subst (λ (x : BodyStep). IsIn (d, Some n) x.reads) (sym same) is)
  reads_given free e (Case selector ts arms) kind h own s (inr (inr none)) d n is = absurd none
  reads_given free e (InPlace ts body finish) kind h own s (inl same) d n is =
      let k : Kind = InPlace ts body finish in
      outer_given free e k h own (inputs_of e) (ap (λ (x : Kind). wires_taken_on Outside (kind_lines (λ n i. false) e x)) kind) d n (subst (λ (x : BodyStep). IsIn (d, Some n) x.reads) (sym same) is)
  reads_given free e (InPlace ts body finish) kind h own s (inr (inl same)) d n is =
      let k : Kind = InPlace ts body finish in
      ⊎_elim
      (λ a. outer_given free e k h own (inputs_of e) (ap (λ (x : Kind). wires_taken_on Outside (kind_lines (λ n i. false) e x)) kind) d n a)
      (λ a.
      let r = in_one body (wires_taken_on Inside (node_lines e)) d n a in
      let are : wires_taken_on Inside (node_lines e) ≡ wires_taken_on Inside (kind_lines free e k) = ap (λ (x : Kind). wires_taken_on Inside (kind_lines (λ n i. false) e x)) kind in
      let t : Takes Inside n (kind_lines free e k) = taken_on Inside n (kind_lines free e k) (subst (λ (xs : List Wire). IsIn (Some n) xs) are r.1) in
      subst (λ (x : ℕ). G x n) r.0 (takes_inside n (kind_lines free e k) h t body (place_inside e body (e.line + 1) ts t.line t.stands)))
      (in_either (d, Some n) (in_diagram e.diagram (inputs_of e)) (in_diagram body (wires_taken_on Inside (node_lines e))) (subst (λ (x : BodyStep). IsIn (d, Some n) x.reads) (sym same) is))
  reads_given free e (InPlace ts body finish) kind h own s (inr (inr none)) d n is = absurd none
  reads_given free e (Shows name t w) kind h own s step d n is = absurd step
  reads_given free e (Shared op inputs outputs) kind h own s step d n is = absurd step
  reads_given free e (Obtain name size item out) kind h own s step d n is = absurd step
  reads_given free e (Read name out) kind h own s step d n is = absurd step
  reads_given free e (Write name w) kind h own s step d n is = absurd step
  reads_given free e (Call name inputs outputs) kind h own s step d n is = absurd step
  reads_given free e (Loop count stop i ts body) kind h own s step d n is = absurd step
  reads_given free e (Sequence parts) kind h own s step d n is = absurd step

-- ---- the places of nodes that may stand in a body

abbrev HasStep : Entry → Kind → WireSource → Type 0
HasStep e k w = (s : BodyStep) × IsIn s (kind_body_steps e k) × IsIn w s.places

out_step : (free : Freedom) (e : Entry) (k : Kind) → e.kind ≡ k → may_stand_in_place k ≡ true → (w : WireSource) → IsIn w (node_places e) → HasStep e k w
out_step free e (Const t literal out) kind may w is = (record { reads = []; places = node_places e }, inl refl, is)
out_step free e (Apply op inputs outputs) kind may w is = (record { reads = in_diagram e.diagram inputs; places = node_places e }, inl refl, is)
out_step free e (Case selector ts arms) kind may w is = (
  _,
  inr (inl refl),
  subst (λ (ws : List WireSource). IsIn w ws) (case_outside_sources (λ n i. false) e selector ts arms) (subst (λ (x : Kind). IsIn w (lines_sources Outside (kind_lines (λ n i. false) e x))) kind is),
)
out_step free e (InPlace ts body finish) kind may w is = (
  _,
  inr (inl refl),
  subst (λ (ws : List WireSource). IsIn w ws) (border_sources Outside e (body ∷ []) [] (e.line + 1) ts) (subst (λ (x : Kind). IsIn w (lines_sources Outside (kind_lines (λ n i. false) e x))) kind is),
)
out_step free e (Shows name t x) kind may w is = absurd (false≢true may)
out_step free e (Shared op inputs outputs) kind may w is = absurd (false≢true may)
out_step free e (Obtain name size item out) kind may w is = absurd (false≢true may)
out_step free e (Read name out) kind may w is = absurd (false≢true may)
out_step free e (Write name x) kind may w is = absurd (false≢true may)
out_step free e (Call name inputs outputs) kind may w is = absurd (false≢true may)
out_step free e (Loop count stop i ts body) kind may w is = absurd (false≢true may)
out_step free e (Sequence parts) kind may w is = absurd (false≢true may)

in_step : (free : Freedom) (e : Entry) (k : Kind) (d : ℕ) → may_stand_in_place k ≡ true → IsIn d (bodies k) → (w : WireSource) → IsIn w (lines_sources Inside (kind_lines free e k)) → HasStep e k w
in_step free e (Case selector ts arms) d may body w is = (_, inl refl, subst (λ (ws : List WireSource). IsIn w ws) (case_inside_sources free e selector ts arms) is)
in_step free e (InPlace ts b finish) d may body w is = (_, inl refl, subst (λ (ws : List WireSource). IsIn w ws) (border_sources Inside e (b ∷ []) [] (e.line + 1) ts) is)
in_step free e (Const t literal out) d may body w is = absurd body
in_step free e (Apply op inputs outputs) d may body w is = absurd body
in_step free e (Shows name t x) d may body w is = absurd body
in_step free e (Shared op inputs outputs) d may body w is = absurd body
in_step free e (Obtain name size item out) d may body w is = absurd body
in_step free e (Read name out) d may body w is = absurd body
in_step free e (Write name x) d may body w is = absurd body
in_step free e (Call name inputs outputs) d may body w is = absurd body
in_step free e (Loop count stop i ts b) d may body w is = absurd (false≢true may)
in_step free e (Sequence parts) d may body w is = absurd (false≢true may)

unreferred_by : (e : Entry) (k : Kind) → kind_spare_refs e.line true k ≡ [] → IsUnreferred e k
unreferred_by e (InPlace ts body finish) none = no_refs (e.line + 1) (e.line + 1) ts none
unreferred_by e (Const t literal out) none = tt
unreferred_by e (Apply op inputs outputs) none = tt
unreferred_by e (Shows name t w) none = tt
unreferred_by e (Shared op inputs outputs) none = tt
unreferred_by e (Obtain name size item out) none = tt
unreferred_by e (Read name out) none = tt
unreferred_by e (Write name w) none = tt
unreferred_by e (Call name inputs outputs) none = tt
unreferred_by e (Loop count stop i ts body) none = tt
unreferred_by e (Case selector ts arms) none = tt
unreferred_by e (Sequence parts) none = tt

-- ---- a structure in place

module _ (vis : List Vi) (vi : Vi) (M : Types) (apart : (v : ℕ) → Leads (has_wire (ports_of vis vi)) v v → ⊥) (none : misplaced (entries_of vi) ≡ []) (p : Entry) (is : IsIn p (entries_of vi)) (ts : List Tunnel)
    (b f : ℕ) (kind : p.kind ≡ InPlace ts b f) (has : ℕ → List ℕ → Bool) (found : (d : ℕ) (n : List ℕ) → has d n ≡ is_some (source_of (ports_of vis vi) d n))
    (fed : (e : Entry) → IsIn e (entries_of vi) → LinesHold (Fed (IsKnown M has)) (kind_lines (freedom vis) e e.kind))
    (outside : (e : Entry) → IsIn e (entries_of vi) → (m : Line) → IsIn m (kind_lines (freedom vis) e e.kind) → m.outside ≡ e.diagram) where
  abbrev free : Freedom
  free = freedom vis

  abbrev fv : FlatVi
  fv = flat vis vi M

  abbrev es : List Entry
  es = entries_of vi

  abbrev ns : List Entry
  ns = inside_of b f es

  abbrev all : List BodyStep
  all = steps_in fv b f

  abbrev given_in : List WireSource
  given_in = lines_places Inside (p.line + 1) ts

  at : IsPlaced vi p b f
  at = placed vi p is ts b f kind

  may : (e : Entry) → IsIn e es → b < e.line → e.line < f → may_stand_in_place e.kind ≡ true
  may e e_is l h = stands_in_place vi none p is ts b f kind e e_is l h

  step_place : (e : Entry) → IsIn e es → b < e.line → e.line < f → (w : WireSource) → HasStep e e.kind w → IsStepPlace all w
  step_place e e_is l h w s = record { step = s.0; stands = to_among s.0 all (step_of ns e s.0 (in_range b f es e e_is l h) s.1); gives = to_among w s.0.places s.2 }

  -- where the names of the body's diagrams have their sources
  whereabouts : (d : ℕ) → b ≤ d → d < f → (n : List ℕ) (w : WireSource) → source_of fv.ports d n ≡ Some w → Among w given_in ⊎ IsStepPlace all w
  whereabouts d lo hi n w e = by (located vis vi M d n w e)
    where
      by : Located vis vi d w → Among w given_in ⊎ IsStepPlace all w
      by (control z i) = absurd (let x = at.line in omega (arith, x, z, lo))
      by (outer g g_is same places) =
          let between = (at.apart g g_is).line (omega (arith, same, lo)) (omega (arith, same, hi)) in
          inr (step_place g g_is between.0 between.1 w (out_step free g g.kind refl (may g g_is between.0 between.1) w places))
      by (inner g g_is body l of inside o o_at s side number) =
          let here : IsIn w (lines_sources Inside (kind_lines free g g.kind)) =
          subst (λ (x : WireSource). IsIn x (lines_sources Inside (kind_lines free g g.kind))) (ap (λ m. record { line = m; operand = w.operand }) number)
          (in_lines_sources Inside (kind_lines free g g.kind) l w.operand o of o_at s side) in
          ⊎_elim
          (λ (first : b ≡ d).
          let p_has : IsIn d (bodies p.kind) = subst (λ (k : Kind). IsIn d (bodies k)) (sym kind) (inl first) in
          let same : g ≡ p = one_owner vis vi M p g is g_is d p_has body in
          let own : IsIn w (lines_sources Inside (kind_lines free p (InPlace ts b f))) =
          subst (λ (k : Kind). IsIn w (lines_sources Inside (kind_lines free p k))) kind (subst (λ (x : Entry). IsIn w (lines_sources Inside (kind_lines free x x.kind))) same here) in
          inl (to_among w given_in (subst (λ (ws : List WireSource). IsIn w ws) (border_sources Inside p (b ∷ []) [] (p.line + 1) ts) own)))
          (λ (past : b < d).
          let between = (at.apart g g_is).owner d body past hi in
          inr (step_place g g_is between.0 between.1 w (in_step free g g.kind d (may g g_is between.0 between.1) body w here)))
          (at_or_past b d lo)
        where
          at_or_past : (x y : ℕ) → x ≤ y → (x ≡ y) ⊎ (x < y)
          at_or_past x y le = grind (arith, le)

  -- a diagram in which a step reads is one of the body's
  read_between : (e : Entry) → IsIn e es → b < e.line → e.line < f → (s : BodyStep) → StepRole free e e.kind s → (d : ℕ) (n : List ℕ) → IsIn (d, Some n) s.reads → (b ≤ d) × (d < f)
  read_between e e_is l h s role d n r = by role
    where
      out_is : (e.diagram ≡ d) → (b ≤ d) × (d < f)
      out_is same = let x = (at.apart e e_is).diagram l h in let u = x.0 in let w = x.1 in (omega (arith, u, same), omega (arith, w, same))

      by : StepRole free e e.kind s → (b ≤ d) × (d < f)
      by (opens reads places) = out_is (reads d n r).0
      by (closes reads places) =
          ⊎_elim (λ (o : ReadsOut free e e.kind d n). out_is o.0) (λ body. let x = (at.apart e e_is).inner d body l h in let u = x.0 in (omega (arith, u), x.1)) (reads d n r)

  step_fed : (s : BodyStep) → IsIn s all → (d : ℕ) (n : List ℕ) → IsIn (d, Some n) s.reads → IsFed fv given_in all d n
  step_fed s s_is d n r =
      let o = step_origin ns s s_is in
      let e : Entry = o.0 in
      let range = of_range b f es e o.1 in
      let d_in = read_between e range.0 range.1 range.2 s (step_role free e e.kind refl s o.2) d n r in
      let g : IsKnown M has d n = reads_given (IsKnown M has) free e e.kind refl (fed e range.0) (outside e range.0) s o.2 d n r in
      let w = the_one (source_of fv.ports d n) (sym (found d n) ∙ g.1) in
      record { source = w.0; is = w.1; fed = whereabouts d d_in.0 d_in.1 n w.0 w.1 }

  pub worked_out : IsWorkedOut fv p ts b f
  worked_out = record {
    fed = λ s s_is d n r. step_fed s (from_among s all s_is) d n (from_among (d, Some n) s.reads r);
    in_turn = λ s s_is. all_come vis vi M b f apart s (from_among s all s_is);
    names = λ n w e. whereabouts b (omega arith) at.body n w e;
    unreferred = λ n n_is.
        let r = of_range b f es n (from_among n ns n_is) in
        unreferred_by n n.kind (spare_inside vi none p is ts b f kind n r.0 r.1 r.2);
  }
