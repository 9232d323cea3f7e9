-- Where the name of a diagram has its source: at a control, at a node of the diagram, or at the border of the node whose diagram it is.
use Rattle.std.proofs.Common.{◌≡◌, ◌⊎◌, ◌<◌, inl, inr, ⊎_elim, ℕ, ◌+◌, ◌==◌, Bool, true, false, cond, ◌&&◌, List, [], ◌∷◌, ◌++◌, map, Option, Some, None, refl, ap, sym, ◌∙◌, subst, arith}
use Rattle.std.specs.List.{AllByRecursion}
use Rattle.std.proofs.lemmas.Bool.{false≢true}
use Rattle.g_diagram.specs.declared.node.Tunnel.{Tunnel}
use Rattle.g_diagram.specs.declared.node.Tunnel.TheVariants as line
use Rattle.g_diagram.specs.declared.panel.PanelItem.{PanelItem}
use Rattle.g_diagram.specs.declared.panel.PanelItem.TheVariants.{Control, Indicator}
use Rattle.g_diagram.specs.declared.hierarchy.Vi.{Vi}
use Rattle.g_diagram.specs.Lines.{Wire, Arm, Part, Entry, Kind, Const, Apply, Shows, Shared, Obtain, Read, Write, Call, Loop, Case, Sequence, InPlace, entries_of, nodes_of}
use Rattle.g_diagram.specs.Operands.{Side, Outside, Inside, Before, Operand, Line, Freedom, source, consumer, free_consumer, border, case_border, border_lines, parts_lines, give_line, call_inputs, loop_header, kind_lines, entries_lines, control_line, control_lines}
use Rattle.g_diagram.specs.Ports.{freedom}
use Rattle.g_typing.specs.Types.{Types}
use Rattle.g_typing.proofs.Roles.{bodies, IsAmong}
use Rattle.g_typing.proofs.Nesting.{nested, line_count}
use Rattle.g_typing.proofs.Ready.{IsNested}
use Rattle.g_typing.proofs.Ready as ready
use Rattle.g_border.specs.declared.place.WireSource.{WireSource}
use Rattle.g_border.specs.Readers.{source_of, is_on, sources_on, place_all, lines_sources}
use Rattle.g_frames.specs.Program.{FlatVi}
use Rattle.g_frames.specs.State.{nodes_in}
use Rattle.g_typed_states.specs.Places.{Among, node_places, lines_places, control_places, IsNodePlace, IsSupplied}
use Rattle.g_accepted.proofs.Facts.{IsIn, in_left, in_right, in_either, all_both, of_one, same_number}
use Rattle.g_accepted.proofs.Placed.{flat, lines, case_sources, call_sources}
use Rattle.g_accepted.proofs.Sources.{OperandAt, IsSide, SourceAt, source_at}
use Rattle.g_accepted.proofs.Structures.{to_among}

-- ---- lines of a node

-- a source stands in the node's diagram or in those inside
abbrev NoBefore : Operand → Type 0
NoBefore o = o.is_source ≡ true → o.side ≡ Before → ⊥

pub record IsLineOf (e : Entry) (k : Kind) (l : Line) : Type 0 where
  pub outside : l.outside ≡ e.diagram
  pub inside : (d : ℕ) → IsIn d l.inside → IsIn d (bodies k)
  pub none_before : AllByRecursion NoBefore l.operands

outside_source : (w : Wire) → NoBefore (source Outside w)
outside_source w s h = absurd (cc h)

not_source : (o : Operand) → o.is_source ≡ false → NoBefore o
not_source o e s h = false≢true (sym e ∙ s)

inputs_plain : (ws : List Wire) (os : List Operand) → AllByRecursion NoBefore os → AllByRecursion NoBefore (map (consumer Outside) ws ++ os)
inputs_plain [] os h = h
inputs_plain (w ∷ ws) os h = (not_source (consumer Outside w) refl, inputs_plain ws os h)

call_plain : (free : ℕ → Bool) (k : ℕ) (ws : List Wire) (os : List Operand) → AllByRecursion NoBefore os → AllByRecursion NoBefore (call_inputs free k ws ++ os)
call_plain free k [] os h = h
call_plain free k (w ∷ ws) os h = ((λ s g. absurd (false≢true s)), call_plain free (k + 1) ws os h)

outputs_plain : (ws : List Wire) → AllByRecursion NoBefore (map (source Outside) ws)
outputs_plain [] = tt
outputs_plain (w ∷ ws) = (outside_source w, outputs_plain ws)

-- that of a source whose side is known, and of a consumer
is_out : (w : Wire) → NoBefore (source Outside w)
is_out w = outside_source w

is_in : (w : Wire) → NoBefore (source Inside w)
is_in w s h = absurd (cc h)

taken : (side : Side) (w : Wire) → NoBefore (consumer side w)
taken side w s h = absurd (false≢true s)

border_plain : (t : Tunnel) → AllByRecursion NoBefore (border t)
border_plain (line.Tunnel outer inner) = (taken Outside outer, (is_in inner, tt))
border_plain (line.Register initial inner next last) = (taken Outside initial, (is_in inner, (taken Inside next, (is_out last, tt))))
border_plain (line.Kept t inner next last) = ((λ s h. absurd (false≢true s)), (is_in inner, (taken Inside next, (is_out last, tt))))
border_plain (line.Last inner outer) = (taken Inside inner, (is_out outer, tt))
border_plain (line.Gather inner outer) = (taken Inside inner, (is_out outer, tt))
border_plain (line.Index array inner) = (taken Outside array, (is_in inner, tt))
border_plain (line.Result outer default) = (is_out outer, tt)
border_plain (line.Carry before inner) = (taken Before before, (is_in inner, tt))
border_plain (line.Ref reference inner next same code) = (taken Outside reference, (is_in inner, (taken Inside next, (is_out same, (is_out code, tt)))))
border_plain (line.Element array index inner next outer) = (taken Outside array, (taken Outside index, (is_in inner, (taken Inside next, (is_out outer, tt)))))
border_plain (line.Field k cluster inner next outer) = (taken Outside cluster, (is_in inner, (taken Inside next, (is_out outer, tt))))

case_plain : (t : Tunnel) → AllByRecursion NoBefore (case_border t)
case_plain (line.Tunnel outer inner) = (taken Outside outer, ((λ s h. absurd (cc h)), tt))
case_plain (line.Register initial inner next last) = border_plain (line.Register initial inner next last)
case_plain (line.Kept t inner next last) = border_plain (line.Kept t inner next last)
case_plain (line.Last inner outer) = border_plain (line.Last inner outer)
case_plain (line.Gather inner outer) = border_plain (line.Gather inner outer)
case_plain (line.Index array inner) = border_plain (line.Index array inner)
case_plain (line.Result outer default) = border_plain (line.Result outer default)
case_plain (line.Carry before inner) = border_plain (line.Carry before inner)
case_plain (line.Ref reference inner next same code) = border_plain (line.Ref reference inner next same code)
case_plain (line.Element array index inner next outer) = border_plain (line.Element array index inner next outer)
case_plain (line.Field k cluster inner next outer) = border_plain (line.Field k cluster inner next outer)

borders_of : (e : Entry) (k : Kind) (bs bl : List ℕ) (form : Tunnel → List Operand) → ((t : Tunnel) → AllByRecursion NoBefore (form t)) → ((d : ℕ) → IsIn d bs → IsIn d (bodies k)) → (l : ℕ) (ts : List Tunnel)
    → AllByRecursion (IsLineOf e k) (border_lines e bs bl form l ts)
borders_of e k bs bl form plain sub l [] = tt
borders_of e k bs bl form plain sub l (t ∷ ts) = (record { outside = refl; inside = sub; none_before = plain t }, borders_of e k bs bl form plain sub (l + 1) ts)

gives_plain : (ws : List Wire) → AllByRecursion NoBefore (map (free_consumer Inside) ws)
gives_plain [] = tt
gives_plain (w ∷ ws) = ((λ s h. absurd (false≢true s)), gives_plain ws)

gives_of : (e : Entry) (k : Kind) (arms : List Arm) → ((d : ℕ) → IsIn d (map (λ a. a.body) arms) → IsIn d (bodies k)) → AllByRecursion (IsLineOf e k) (map (give_line e) arms)
gives_of e k [] sub = tt
gives_of e k (arm ∷ arms) sub =
    (record { outside = refl; inside = λ d is. sub d (single arm.body d (map (λ a. a.body) arms) is); none_before = gives_plain arm.gives }, gives_of e k arms (λ d is. sub d (inr is)))
  where
    single : (b d : ℕ) (bs : List ℕ) → IsIn d (b ∷ []) → IsIn d (b ∷ bs)
    single b d bs (inl same) = inl same
    single b d bs (inr none) = absurd none

parts_of : (e : Entry) (k : Kind) (numbers : List ℕ) (ps : List Part) → ((d : ℕ) → IsIn d (map (λ p. p.body) ps) → IsIn d (bodies k)) → AllByRecursion (IsLineOf e k) (parts_lines e numbers ps)
parts_of e k numbers [] sub = tt
parts_of e k numbers (p ∷ ps) sub =
    all_both (IsLineOf e k) (border_lines e (p.body ∷ []) numbers border (p.body + 1) p.lines) (parts_lines e (p.body ∷ []) ps)
    (borders_of e k (p.body ∷ []) numbers border border_plain (λ d is. sub d (single p.body d (map (λ q. q.body) ps) is)) (p.body + 1) p.lines)
    (parts_of e k (p.body ∷ []) ps (λ d is. sub d (inr is)))
  where
    single : (b d : ℕ) (bs : List ℕ) → IsIn d (b ∷ []) → IsIn d (b ∷ bs)
    single b d bs (inl same) = inl same
    single b d bs (inr none) = absurd none

header_plain : (count stop : Option Wire) (i : Wire) → AllByRecursion NoBefore (loop_header count stop i)
header_plain None None i = (is_in i, tt)
header_plain None (Some s) i = (taken Inside s, (is_in i, tt))
header_plain (Some c) None i = ((λ s h. absurd (false≢true s)), (is_in i, tt))
header_plain (Some c) (Some s) i = ((λ t h. absurd (false≢true t)), (taken Inside s, (is_in i, tt)))

pub lines_of_kind : (free : Freedom) (e : Entry) (k : Kind) → AllByRecursion (IsLineOf e k) (kind_lines free e k)
lines_of_kind free e (Const t literal out) = (record { outside = refl; inside = λ d is. absurd is; none_before = (is_out out, tt) }, tt)
lines_of_kind free e (Apply op inputs outputs) =
    (record { outside = refl; inside = λ d is. absurd is; none_before = inputs_plain inputs (map (source Outside) outputs) (outputs_plain outputs) }, tt)
lines_of_kind free e (Shows name t w) = (record { outside = refl; inside = λ d is. absurd is; none_before = ((λ s h. absurd (false≢true s)), tt) }, tt)
lines_of_kind free e (Shared op inputs outputs) =
    (record { outside = refl; inside = λ d is. absurd is; none_before = inputs_plain inputs (map (source Outside) outputs) (outputs_plain outputs) }, tt)
lines_of_kind free e (Obtain queue size item out) = (record { outside = refl; inside = λ d is. absurd is; none_before = (is_out out, tt) }, tt)
lines_of_kind free e (Read object out) = (record { outside = refl; inside = λ d is. absurd is; none_before = (is_out out, tt) }, tt)
lines_of_kind free e (Write object w) = (record { outside = refl; inside = λ d is. absurd is; none_before = (taken Outside w, tt) }, tt)
lines_of_kind free e (Call name inputs outputs) =
    (record { outside = refl; inside = λ d is. absurd is; none_before = call_plain (free name) 0 inputs (map (source Outside) outputs) (outputs_plain outputs) }, tt)
lines_of_kind free e (Loop count stop i ts body) =
    (record { outside = refl; inside = λ d is. is; none_before = header_plain count stop i }, borders_of e (Loop count stop i ts body) (body ∷ []) [] border border_plain (λ d is. is) (e.line + 1) ts)
lines_of_kind free e (Case selector ts arms) = (
  record { outside = refl; inside = λ d is. absurd is; none_before = (taken Outside selector, tt) },
  all_both (IsLineOf e (Case selector ts arms)) (border_lines e (map (λ a. a.body) arms) [] case_border (e.line + 1) ts) (map (give_line e) arms)
      (borders_of e (Case selector ts arms) (map (λ a. a.body) arms) [] case_border case_plain (λ d is. is) (e.line + 1) ts) (gives_of e (Case selector ts arms) arms (λ d is. is)),
)
lines_of_kind free e (Sequence parts) = parts_of e (Sequence parts) [] parts (λ d is. is)
lines_of_kind free e (InPlace ts body finish) = borders_of e (InPlace ts body finish) (body ∷ []) [] border border_plain (λ d is. is) (e.line + 1) ts

-- ---- places of lines

in_sources : (s : Side) (j : ℕ) (os : List Operand) (k : ℕ) (o : Operand) → OperandAt j os k o → (o.is_source && is_on o.side s) ≡ true → IsIn k (sources_on s j os)
in_sources s j [] k o at e = absurd at
in_sources s j (x ∷ os) k o (inl same) e =
    let t : (x.is_source && is_on x.side s) ≡ true = ap (λ (y : Operand). y.is_source && is_on y.side s) same.1 ∙ e in
    subst (λ (b : Bool). IsIn k (cond b (j ∷ sources_on s (j + 1) os) (sources_on s (j + 1) os))) (sym t) (inl same.0)
in_sources s j (x ∷ os) k o (inr at) e = by (x.is_source && is_on x.side s) (in_sources s (j + 1) os k o at e)
  where
    by : (b : Bool) → IsIn k (sources_on s (j + 1) os) → IsIn k (cond b (j ∷ sources_on s (j + 1) os) (sources_on s (j + 1) os))
    by true more = inr more
    by false more = more

in_places : (l : ℕ) (ks : List ℕ) (k : ℕ) → IsIn k ks → IsIn (record { line = l; operand = k }) (place_all l ks)
in_places l [] k is = absurd is
in_places l (x ∷ ks) k (inl same) = inl (ap (λ n. record { line = l; operand = n }) same)
in_places l (x ∷ ks) k (inr is) = inr (in_places l ks k is)

-- a source at a line's operand is among the lines' sources on its side
pub in_lines_sources : (s : Side) (ls : List Line) (l : Line) (k : ℕ) (o : Operand) → IsIn l ls → OperandAt 1 l.operands k o → o.is_source ≡ true → o.side ≡ s
    → IsIn (record { line = l.line; operand = k }) (lines_sources s ls)
in_lines_sources s [] l k o is at e side = absurd is
in_lines_sources s (m ∷ ls) l k o (inl same) at e side =
    in_left (record { line = l.line; operand = k }) (place_all m.line (sources_on s 1 m.operands)) (lines_sources s ls)
    (subst (λ (x : Line). IsIn (record { line = l.line; operand = k }) (place_all x.line (sources_on s 1 x.operands))) (sym same)
    (in_places l.line (sources_on s 1 l.operands) k (in_sources s 1 l.operands k o at (both_true o.is_source (is_on o.side s) e (on_itself o.side s side)))))
  where
    both_true : (a b : Bool) → a ≡ true → b ≡ true → (a && b) ≡ true
    both_true true b e h = h
    both_true false b e h = absurd (false≢true e)

    on_itself : (a b : Side) → a ≡ b → is_on a b ≡ true
    on_itself a b same = subst (λ (x : Side). is_on a x ≡ true) same (self a)
      where
        self : (a : Side) → is_on a a ≡ true
        self Outside = refl
        self Inside = refl
        self Before = refl
in_lines_sources s (m ∷ ls) l k o (inr is) at e side =
    in_right (record { line = l.line; operand = k }) (place_all m.line (sources_on s 1 m.operands)) (lines_sources s ls) (in_lines_sources s ls l k o is at e side)

-- the sources of border lines on a side
pub border_sources : (s : Side) (e : Entry) (bs bl : List ℕ) (l : ℕ) (ts : List Tunnel) → lines_sources s (border_lines e bs bl border l ts) ≡ lines_places s l ts
border_sources s e bs bl l [] = refl
border_sources s e bs bl l (t ∷ ts) = ap (λ ws. place_all l (sources_on s 1 (border t)) ++ ws) (border_sources s e bs bl (l + 1) ts)

pub case_border_sources : (s : Side) (e : Entry) (bs bl : List ℕ) (l : ℕ) (ts : List Tunnel) → lines_sources s (border_lines e bs bl case_border l ts) ≡ lines_places s l ts
case_border_sources s e bs bl l [] = refl
case_border_sources s e bs bl l (t ∷ ts) =
    ap (λ ks. place_all l ks ++ lines_sources s (border_lines e bs bl case_border (l + 1) ts)) (case_sources s t)
    ∙ ap (λ ws. place_all l (sources_on s 1 (border t)) ++ ws) (case_border_sources s e bs bl (l + 1) ts)

-- which inputs of calls are free makes no difference to a node's sources
same_places : (free : Freedom) (e : Entry) (k : Kind) → lines_sources Outside (kind_lines free e k) ≡ lines_sources Outside (kind_lines (λ n i. false) e k)
same_places free e (Call name inputs outputs) = ap (λ ks. place_all e.line ks ++ []) (call_sources (free name) (λ i. false) 1 0 inputs (map (source Outside) outputs))
same_places free e (Const t literal out) = refl
same_places free e (Apply op inputs outputs) = refl
same_places free e (Shows name t w) = refl
same_places free e (Shared op inputs outputs) = refl
same_places free e (Obtain queue size item out) = refl
same_places free e (Read object out) = refl
same_places free e (Write object w) = refl
same_places free e (Loop count stop i ts body) = refl
same_places free e (Case selector ts arms) = refl
same_places free e (Sequence parts) = refl
same_places free e (InPlace ts body finish) = refl

-- ---- where a source is

pub data Located (vis : List Vi) (vi : Vi) (d : ℕ) (w : WireSource) : Type 0 where
  control : d ≡ 0 → IsIn w (control_places 1 vi.panel) → Located vis vi d w
  -- at a node of the diagram
  outer : (e : Entry) → IsIn e (entries_of vi) → e.diagram ≡ d → IsIn w (node_places e) → Located vis vi d w
  -- at the border of the node whose diagram it is
  inner : (e : Entry) → IsIn e (entries_of vi) → IsIn d (bodies e.kind) → (l : Line) → IsIn l (kind_lines (freedom vis) e e.kind) → IsIn d l.inside → (o : Operand) → OperandAt 1 l.operands w.operand o
      → o.is_source ≡ true → o.side ≡ Inside → l.line ≡ w.line → Located vis vi d w

of_entries : (free : Freedom) (es : List Entry) (l : Line) → IsIn l (entries_lines free es) → (e : Entry) × IsIn e es × IsIn l (kind_lines free e e.kind)
of_entries free [] l is = absurd is
of_entries free (e ∷ es) l is =
    ⊎_elim
    (λ here. (e, inl refl, here))
    (λ later. let r = of_entries free es l later in (r.0, inr r.1, r.2))
    (in_either l (kind_lines free e e.kind) (entries_lines free es) is)

in_control : (first : ℕ) (items : List PanelItem) (l : Line) (k : ℕ) (o : Operand) (d : ℕ) → IsIn l (control_lines first items) → OperandAt 1 l.operands k o → IsSide d o.side l
    → (d ≡ 0) × IsIn (record { line = l.line; operand = k }) (control_places first items)
in_control first [] l k o d is at side = absurd is
in_control first (Control name t required default out ∷ items) l k o d (inl same) at side =
    by (subst (λ (x : Line). OperandAt 1 x.operands k o) (sym same) at) (subst (λ (x : Line). IsSide d o.side x) (sym same) side)
  where
    w : WireSource
    w = record { line = l.line; operand = k }

    zero_is : IsIn d (0 ∷ []) → d ≡ 0
    zero_is (inl e) = sym e
    zero_is (inr none) = absurd none

    by : OperandAt 1 (control_line first out).operands k o → IsSide d o.side (control_line first out) → (d ≡ 0) × IsIn w (control_places first (Control name t required default out ∷ items))
    by (inl here) s = (
      zero_is (subst (λ (y : Operand). IsSide d y.side (control_line first out)) (sym here.1) s),
      inl (ap (λ (x : Line). record { line = x.line; operand = 1 }) same ∙ ap (λ n. record { line = l.line; operand = n }) here.0),
    )
    by (inr none) s = absurd none
in_control first (Control name t required default out ∷ items) l k o d (inr is) at side = let r = in_control (first + 1) items l k o d is at side in (r.0, inr r.1)
in_control first (Indicator name t x ∷ items) l k o d is at side = in_control (first + 1) items l k o d is at side

module _ (vis : List Vi) (vi : Vi) (M : Types) where
  abbrev fv : FlatVi
  fv = flat vis vi M

  at_kind : (d : ℕ) (w : WireSource) (e : Entry) (l : Line) (o : Operand) → IsIn e (entries_of vi) → IsIn l (kind_lines (freedom vis) e e.kind) → OperandAt 1 l.operands w.operand o → o.is_source ≡ true
      → IsSide d o.side l → l.line ≡ w.line → IsLineOf e e.kind l → Located vis vi d w
  at_kind d w e l o is of at s side number lo = by o.side refl side
    where
      w_is : record { line = l.line; operand = w.operand } ≡ w
      w_is = ap (λ n. record { line = n; operand = w.operand }) number

      not_before : (os : List Operand) (j : ℕ) → OperandAt j os w.operand o → AllByRecursion NoBefore os → NoBefore o
      not_before [] j at h = absurd at
      not_before (x ∷ os) j (inl same) h = subst NoBefore same.1 h.0
      not_before (x ∷ os) j (inr at) h = not_before os (j + 1) at h.1

      by : (side : Side) → o.side ≡ side → IsSide d side l → Located vis vi d w
      by Outside e_side h =
          outer e is (sym lo.outside ∙ h)
          (subst (λ (x : WireSource). IsIn x (node_places e)) w_is
          (subst (λ (ws : List WireSource). IsIn (record { line = l.line; operand = w.operand }) ws) (same_places (freedom vis) e e.kind)
          (in_lines_sources Outside (kind_lines (freedom vis) e e.kind) l w.operand o of at s e_side)))
      by Inside e_side h = inner e is (lo.inside d h) l of h o at s e_side number
      by Before e_side h = absurd (not_before l.operands 1 at lo.none_before s e_side)

  pub located : (d : ℕ) (n : List ℕ) (w : WireSource) → source_of fv.ports d n ≡ Some w → Located vis vi d w
  located d n w e =
      let s : SourceAt d n w (lines vis vi M) = source_at (lines vis vi M) d n w e in
      ⊎_elim
      (λ (here : IsIn s.line (control_lines 1 vi.panel)).
      let r = in_control 1 vi.panel s.line w.operand s.on.operand d here s.on.at s.on.side in
      control r.0 (subst (λ (x : WireSource). IsIn x (control_places 1 vi.panel)) (ap (λ n. record { line = n; operand = w.operand }) s.number) r.1))
      (λ (there : IsIn s.line (entries_lines (freedom vis) (entries_of vi))).
      let r = of_entries (freedom vis) (entries_of vi) s.line there in
      at_kind d w r.0 s.line s.on.operand r.1 r.2 s.on.at s.on.source s.on.side s.number
      (of_one (IsLineOf r.0 r.0.kind) (kind_lines (freedom vis) r.0 r.0.kind) (lines_of_kind (freedom vis) r.0 r.0.kind) s.line r.2))
      (in_either s.line (control_lines 1 vi.panel) (entries_lines (freedom vis) (entries_of vi)) s.stands)

  -- ---- nested diagrams

  nest : IsNested (line_count vi) (entries_of vi)
  nest = nested vi

  pub to_of : (e : Entry) (es : List Entry) → IsIn e es → ready.IsOf e es
  to_of e [] is = absurd is
  to_of e (x ∷ es) (inl same) = inl same
  to_of e (x ∷ es) (inr is) = inr (to_of e es is)

  pub to_body : (b : ℕ) (bs : List ℕ) → IsIn b bs → IsAmong b bs
  to_body b [] is = absurd is
  to_body b (x ∷ bs) (inl same) = inl same
  to_body b (x ∷ bs) (inr is) = inr (to_body b bs is)

  -- each diagram inside is of one node
  pub one_owner : (e f : Entry) → IsIn e (entries_of vi) → IsIn f (entries_of vi) → (b : ℕ) → IsIn b (bodies e.kind) → IsIn b (bodies f.kind) → f ≡ e
  one_owner e f is also b h g = nest.one e f (to_of e (entries_of vi) is) (to_of f (entries_of vi) also) b (to_body b (bodies e.kind) h) (to_body b (bodies f.kind) g)

  pub inner_after : (e : Entry) → IsIn e (entries_of vi) → (b : ℕ) → IsIn b (bodies e.kind) → e.diagram < b
  inner_after e is b h = nest.inner e (to_of e (entries_of vi) is) b (to_body b (bodies e.kind) h)

  in_nodes : (d : ℕ) (es : List Entry) (e : Entry) → IsIn e es → e.diagram ≡ d → IsIn e (nodes_of d es)
  in_nodes d [] e is same = absurd is
  in_nodes d (x ∷ es) e (inl here) same =
      let t : (x.diagram == d) ≡ true = ap (λ (y : Entry). y.diagram == d) here ∙ (ap (λ n. n == d) same ∙ same_number d) in
      subst (λ (b : Bool). IsIn e (cond b (x ∷ nodes_of d es) (nodes_of d es))) (sym t) (inl here)
  in_nodes d (x ∷ es) e (inr is) same = by (x.diagram == d) (in_nodes d es e is same)
    where
      by : (b : Bool) → IsIn e (nodes_of d es) → IsIn e (cond b (x ∷ nodes_of d es) (nodes_of d es))
      by true more = inr more
      by false more = more

  at_node : (d : ℕ) (w : WireSource) (e : Entry) → IsIn e (entries_of vi) → e.diagram ≡ d → IsIn w (node_places e) → IsNodePlace fv d w
  at_node d w e is same places = record { node = e; stands = to_among e (nodes_in fv d) (in_nodes d (entries_of vi) e is same); gives = to_among w (node_places e) places }

  -- the VI's own diagram
  pub top_supplied : IsSupplied fv 0 (control_places 1 vi.panel)
  top_supplied n w e = by (located 0 n w e)
    where
      by : Located vis vi 0 w → Among w (control_places 1 vi.panel) ⊎ IsNodePlace fv 0 w
      by (control z is) = inl (to_among w (control_places 1 vi.panel) is)
      by (outer f is same places) = inr (at_node 0 w f is same places)
      by (inner f is body l of inside o at s side number) = absurd (let lt = inner_after f is 0 body in omega (arith, lt))

  -- a diagram inside, where what its node gives there is known
  pub inside_supplied : (e : Entry) → IsIn e (entries_of vi) → (b : ℕ) → IsIn b (bodies e.kind) → (opening : List WireSource)
      → ((l : Line) → IsIn l (kind_lines (freedom vis) e e.kind) → IsIn b l.inside → (k : ℕ) (o : Operand) → OperandAt 1 l.operands k o → o.is_source ≡ true → o.side ≡ Inside
      → IsIn (record { line = l.line; operand = k }) opening) → IsSupplied fv b opening
  inside_supplied e is b body opening given n w at = by (located b n w at)
    where
      by : Located vis vi b w → Among w opening ⊎ IsNodePlace fv b w
      by (control z h) = absurd (let lt = inner_after e is b body in omega (arith, lt, z))
      by (outer f also same places) = inr (at_node b w f also same places)
      by (inner f also bodies_f l of inside o at_o s side number) =
          let same : f ≡ e = one_owner e f is also b body bodies_f in
          let here : IsIn (record { line = l.line; operand = w.operand }) opening =
          given l (subst (λ (x : Entry). IsIn l (kind_lines (freedom vis) x x.kind)) same of) inside w.operand o at_o s side in
          inl (to_among w opening (subst (λ (x : WireSource). IsIn x opening) (ap (λ m. record { line = m; operand = w.operand }) number) here))
