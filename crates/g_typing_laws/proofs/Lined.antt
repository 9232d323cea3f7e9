-- The lines of a VI that have sources stand one after another, so a place is that of one source at most.
use Rattle.std.proofs.Common.{◌≡◌, inl, inr, ℕ, suc, ◌+◌, ◌<◌, ◌≤◌, ◌==◌, List, [], ◌∷◌, ◌++◌, map, length, refl, ap, sym, subst, arith}
use Rattle.std.specs.Prelude.{Some, None}
use Rattle.g_diagram.specs.declared.node.Tunnel.{Tunnel}
use Rattle.g_diagram.specs.declared.node.Node.{Node}
use Rattle.g_diagram.specs.declared.node.Branch.{Branch}
use Rattle.g_diagram.specs.declared.node.Diagram.{Diagram}
use Rattle.g_diagram.specs.declared.node.SequenceFrame.{SequenceFrame}
use Rattle.g_diagram.specs.declared.node.Node.TheVariants as node
use Rattle.g_diagram.specs.declared.node.Node.TheViews.{roll-Node, roll-Branch, roll-Diagram, roll-SequenceFrame}
use Rattle.g_diagram.specs.declared.node.Node.TheOpen.{Node-F, Branch-F, Diagram-F, SequenceFrame-F}
use Rattle.g_diagram.specs.declared.node.Node.TheFolds.{ind-Node, map-Node, map-Branch, map-Diagram, map-SequenceFrame}
use Rattle.g_diagram.specs.declared.panel.PanelItem.{PanelItem}
use Rattle.g_diagram.specs.declared.panel.PanelItem.TheVariants.{Control, Indicator}
use Rattle.g_diagram.specs.declared.hierarchy.Vi.{Vi}
use Rattle.g_diagram.specs.Lines.{Wire, Lines, BranchLines, FrameLines, Arm, Entry, Kind, entry, one_line, loop_lines, in_order, count_of, entries_in, give_lines, branch_count, branches_count, branches_entries, arms, frame_count, frames_count, frames_entries, parts, lines_of, nodes_entries, panel_entries, entries_of, Case, Sequence, InPlace}
use Rattle.g_diagram.specs.Lines as kind
use Rattle.g_diagram.specs.Operands.{Outside, Inside, Operand, Line, Freedom, source, consumer, free_consumer, border, case_border, plain_line, header_line, border_lines, parts_lines, give_line, call_inputs, in_and_out, loop_header, kind_lines, entries_lines, control_line, control_lines}
use Rattle.g_diagram.specs.Ports.{port, ports_from, ports_of, freedom}
use Rattle.g_diagram.proofs.LineLemmas.{diagram_lines, branch_lines, frame_lines, case_lines, sequence_lines}
use Rattle.g_diagram.proofs.LineLemmas as by
use Rattle.g_typing_laws.proofs.Counts.{hit, hit_one}
use Rattle.g_typing_laws.proofs.Places.{IsOnce, places_count, places_both, diagrams_count, lines_at, lines_at_both, ports_at, apart_off, line_once, other_line}
use Rattle.g_typing_laws.proofs.Spans.{Spans, nowhere, wider, alike, both}

once_none : IsOnce []
once_none d = omega arith

once_one : (b : ℕ) → IsOnce (b ∷ [])
once_one b d = let x : hit (b == d) ≤ 1 = hit_one (b == d) in omega (arith, x)

module _ (free : Freedom) (k d : ℕ) where
  -- how many sources stand on a line
  abbrev sources_on : List Line → ℕ → ℕ
  sources_on ls v = lines_at v k d ls

  abbrev entries_on : List Entry → ℕ → ℕ
  entries_on es v = lines_at v k d (entries_lines free es)

  line_spans : (l : Line) → IsOnce l.inside → IsOnce l.before → Spans l.line (l.line + 1) (λ v. places_count v k d (ports_from l 1 l.operands))
  line_spans l i b = record {
    once = λ v. line_once v k d l 1 l.operands i b;
    before = λ v lt. other_line v k d l 1 l.operands (inr lt);
    after = λ v le. other_line v k d l 1 l.operands (inl (omega (arith, le)));
  }

  line_first : (l : Line) (ls : List Line) (high : ℕ) → IsOnce l.inside → IsOnce l.before → l.line < high → Spans (l.line + 1) high (sources_on ls) → Spans l.line high (sources_on (l ∷ ls))
  line_first l ls high i b lt s =
      both l.line (l.line + 1) high (λ v. places_count v k d (ports_from l 1 l.operands)) (sources_on ls) (omega arith) (omega (arith, lt)) (line_spans l i b) s

  border_spans : (e : Entry) (inside before : List ℕ) (form : Tunnel → List Operand) (l : ℕ) (ts : List Tunnel) → IsOnce inside → IsOnce before
      → Spans l (l + length ts) (sources_on (border_lines e inside before form l ts))
  border_spans e inside before form l [] i b = nowhere l (l + 0) (sources_on []) (λ v. refl)
  border_spans e inside before form l (t ∷ ts) i b =
      line_first (record { line = l; node = e.line; outside = e.diagram; inside = inside; before = before; operands = form t })
      (border_lines e inside before form (l + 1) ts) (l + suc (length ts)) i b (omega arith)
      (wider (l + 1) (l + 1) ((l + 1) + length ts) (l + suc (length ts)) _ (omega arith) (omega arith) (border_spans e inside before form (l + 1) ts i b))

  lines_spans : (low mid high : ℕ) (xs ys : List Line) → low ≤ mid → mid ≤ high → Spans low mid (sources_on xs) → Spans mid high (sources_on ys) → Spans low high (sources_on (xs ++ ys))
  lines_spans low mid high xs ys l h s t =
      alike low high (λ v. sources_on xs v + sources_on ys v) (sources_on (xs ++ ys)) (λ v. lines_at_both v k d xs ys) (both low mid high (sources_on xs) (sources_on ys) l h s t)

  entries_both : (v : ℕ) (xs ys : List Entry) → entries_on (xs ++ ys) v ≡ entries_on xs v + entries_on ys v
  entries_both v [] ys = omega arith
  entries_both v (x ∷ xs) ys =
      let a : entries_on (x ∷ (xs ++ ys)) v ≡ sources_on (kind_lines free x x.kind) v + entries_on (xs ++ ys) v = lines_at_both v k d (kind_lines free x x.kind) (entries_lines free (xs ++ ys)) in
      let b : entries_on (x ∷ xs) v ≡ sources_on (kind_lines free x x.kind) v + entries_on xs v = lines_at_both v k d (kind_lines free x x.kind) (entries_lines free xs) in
      let e : entries_on (xs ++ ys) v ≡ entries_on xs v + entries_on ys v = entries_both v xs ys in
      omega (arith, a, b, e)

  entries_spans : (low mid high : ℕ) (xs ys : List Entry) → low ≤ mid → mid ≤ high → Spans low mid (entries_on xs) → Spans mid high (entries_on ys) → Spans low high (entries_on (xs ++ ys))
  entries_spans low mid high xs ys l h s t =
      alike low high (λ v. entries_on xs v + entries_on ys v) (entries_on (xs ++ ys)) (λ v. entries_both v xs ys) (both low mid high (entries_on xs) (entries_on ys) l h s t)

  node_first : (low mid high : ℕ) (e : Entry) (es : List Entry) → low ≤ mid → mid ≤ high → Spans low mid (sources_on (kind_lines free e e.kind)) → Spans mid high (entries_on es)
      → Spans low high (entries_on (e ∷ es))
  node_first low mid high e es l h s t = lines_spans low mid high (kind_lines free e e.kind) (entries_lines free es) l h s t

  -- lines whose sources lie so, wherever they stand
  abbrev Good : Lines → Type 0
  Good n = (line z : ℕ) → Spans line (line + n.count) (entries_on (n.entries line z))

  plain_spans : (e : Entry) (ops : List Operand) → Spans e.line (e.line + 1) (sources_on (plain_line e ops ∷ []))
  plain_spans e ops = line_first (plain_line e ops) [] (e.line + 1) once_none once_none (omega arith) (nowhere (e.line + 1) (e.line + 1) (sources_on []) (λ v. refl))

  one_good : (n : Kind) (ops : List Operand) → ((e : Entry) → kind_lines free e n ≡ plain_line e ops ∷ []) → Good (one_line n)
  one_good n ops is line z =
      let e : Entry = entry line z n in
      node_first line (line + 1) (line + 1) e [] (omega arith) (omega arith)
      (let P : List Line → Type 0 = λ ls. Spans line (line + 1) (sources_on ls) in subst P (sym (is e)) (plain_spans e ops))
      (nowhere (line + 1) (line + 1) (entries_on []) (λ v. refl))

  abbrev AllGood : List Lines → Type 0
  AllGood [] = Unit {0}
  AllGood (n ∷ ns) = Good n × AllGood ns

  all_good : (ns : List Lines) → AllGood ns → Good (in_order ns)
  all_good [] h line z = nowhere line (line + 0) (entries_on []) (λ v. refl)
  all_good (n ∷ ns) h line z =
      let mid : ℕ = line + n.count in
      let high : ℕ = line + (n.count + count_of ns) in
      entries_spans line mid high (n.entries line z) (entries_in ns mid z) (omega arith) (omega arith) (h.0 line z)
      (wider mid mid (mid + count_of ns) high (entries_on (entries_in ns mid z)) (omega arith) (omega arith) (all_good ns h.1 mid z))

  -- the lines of a node with its own operands stand before its body
  loop_good : (ts : List Tunnel) (body : Lines) (n : (body finish : ℕ) → Kind)
      → ((line z b f : ℕ) → Spans line (line + 1 + length ts) (sources_on (kind_lines free (entry line z (n b f)) (n b f)))) → Good body → Good (loop_lines ts body n)
  loop_good ts body n own good line z =
      let first : ℕ = line + 1 + length ts in
      let high : ℕ = line + (3 + length ts + body.count) in
      let es : List Entry = body.entries (first + 1) first in
      node_first line first high (entry line z (n first (first + 1 + body.count))) es (omega arith) (omega arith) (own line z first (first + 1 + body.count))
      (wider (first + 1) first ((first + 1) + body.count) high (entries_on es) (omega arith) (omega arith) (good (first + 1) first))

  header_spans : (e : Entry) (b : ℕ) (ops : List Operand) (ts : List Tunnel)
      → Spans e.line (e.line + 1 + length ts) (sources_on (header_line e b ops ∷ border_lines e (b ∷ []) [] border (e.line + 1) ts))
  header_spans e b ops ts =
      line_first (header_line e b ops) (border_lines e (b ∷ []) [] border (e.line + 1) ts) (e.line + 1 + length ts) (once_one b) once_none (omega arith)
      (border_spans e (b ∷ []) [] border (e.line + 1) ts (once_one b) once_none)

  place_spans : (e : Entry) (b : ℕ) (ts : List Tunnel) → Spans e.line (e.line + 1 + length ts) (sources_on (border_lines e (b ∷ []) [] border (e.line + 1) ts))
  place_spans e b ts =
      wider (e.line + 1) e.line (e.line + 1 + length ts) (e.line + 1 + length ts) (sources_on (border_lines e (b ∷ []) [] border (e.line + 1) ts)) (omega arith) (omega arith)
      (border_spans e (b ∷ []) [] border (e.line + 1) ts (once_one b) once_none)

  -- a case

  bodies_spans : (line : ℕ) (bs : List BranchLines) → Spans line (line + branches_count bs) (λ x. diagrams_count x (map (λ a. a.body) (arms line bs)))
  bodies_spans line [] = nowhere line (line + 0) (λ x. 0) (λ x. refl)
  bodies_spans line (b ∷ bs) =
      let mid : ℕ = line + branch_count b in
      let high : ℕ = line + (branch_count b + branches_count bs) in
      both line mid high (λ x. hit (line == x)) (λ x. diagrams_count x (map (λ a. a.body) (arms mid bs))) (omega arith) (omega arith)
      (wider line line (line + 1) mid (λ x. hit (line == x)) (omega arith) (omega arith) (one_number line))
      (wider mid mid (mid + branches_count bs) high (λ x. diagrams_count x (map (λ a. a.body) (arms mid bs))) (omega arith) (omega arith) (bodies_spans mid bs))
    where
      one_number : (n : ℕ) → Spans n (n + 1) (λ x. hit (n == x))
      one_number n = record {
        once = λ x. hit_one (n == x);
        before = λ x lt. ap hit (apart_off n x (inr lt));
        after = λ x le. ap hit (apart_off n x (inl (omega (arith, le))));
      }

  bodies_once : (line : ℕ) (bs : List BranchLines) → IsOnce (map (λ a. a.body) (arms line bs))
  bodies_once line bs x = let s = bodies_spans line bs in s.once x

  consumers_among : (v : ℕ) (l : Line) (j : ℕ) (w : Wire) (bs : List ℕ) → places_count v k d (map (port l j (free_consumer Inside w) None) bs) ≡ 0
  consumers_among v l j w [] = refl
  consumers_among v l j w (b ∷ bs) = let e : places_count v k d (map (port l j (free_consumer Inside w) None) bs) ≡ 0 = consumers_among v l j w bs in omega (arith, e)

  consumers_none : (v : ℕ) (l : Line) (j : ℕ) (ws : List Wire) → places_count v k d (ports_from l j (map (free_consumer Inside) ws)) ≡ 0
  consumers_none v l j [] = refl
  consumers_none v l j (w ∷ ws) =
      let a : places_count v k d (map (port l j (free_consumer Inside w) None) l.inside) ≡ 0 = consumers_among v l j w l.inside in
      let e : places_count v k d (ports_from l (j + 1) (map (free_consumer Inside) ws)) ≡ 0 = consumers_none v l (j + 1) ws in
      let s : places_count v k d (map (port l j (free_consumer Inside w) None) l.inside ++ ports_from l (j + 1) (map (free_consumer Inside) ws))
      ≡ places_count v k d (map (port l j (free_consumer Inside w) None) l.inside) + places_count v k d (ports_from l (j + 1) (map (free_consumer Inside) ws)) =
      places_both v k d (map (port l j (free_consumer Inside w) None) l.inside) (ports_from l (j + 1) (map (free_consumer Inside) ws)) in
      omega (arith, a, e, s)

  gives_none : (v : ℕ) (e : Entry) (branches : List Arm) → sources_on (map (give_line e) branches) v ≡ 0
  gives_none v e [] = refl
  gives_none v e (a ∷ branches) =
      let x : places_count v k d (ports_from (give_line e a) 1 (map (free_consumer Inside) a.gives)) ≡ 0 = consumers_none v (give_line e a) 1 a.gives in
      let y : sources_on (map (give_line e) branches) v ≡ 0 = gives_none v e branches in
      omega (arith, x, y)

  case_spans : (e : Entry) (selector : Wire) (ts : List Tunnel) (branches : List Arm) → IsOnce (map (λ a. a.body) branches)
      → Spans e.line (e.line + 1 + length ts) (sources_on (kind_lines free e (Case selector ts branches)))
  case_spans e selector ts branches once =
      let ls : List Line = border_lines e (map (λ a. a.body) branches) [] case_border (e.line + 1) ts in
      let high : ℕ = e.line + 1 + length ts in
      line_first (plain_line e (consumer Outside selector ∷ [])) (ls ++ map (give_line e) branches) high once_none once_none (omega arith)
      (lines_spans (e.line + 1) high high ls (map (give_line e) branches) (omega arith) (omega arith)
      (border_spans e (map (λ a. a.body) branches) [] case_border (e.line + 1) ts once once_none)
      (nowhere high high (sources_on (map (give_line e) branches)) (λ v. gives_none v e branches)))

  abbrev AllBranches : List BranchLines → Type 0
  AllBranches [] = Unit {0}
  AllBranches (b ∷ bs) = Good b.body × AllBranches bs

  branches_spans : (line : ℕ) (bs : List BranchLines) → AllBranches bs → Spans line (line + branches_count bs) (entries_on (branches_entries line bs))
  branches_spans line [] h = nowhere line (line + 0) (entries_on []) (λ v. refl)
  branches_spans line (b ∷ bs) h =
      let mid : ℕ = line + branch_count b in
      let high : ℕ = line + (branch_count b + branches_count bs) in
      let from : ℕ = line + 1 + give_lines b.gives in
      entries_spans line mid high (b.body.entries from line) (branches_entries mid bs) (omega arith) (omega arith)
      (wider from line (from + b.body.count) mid (entries_on (b.body.entries from line)) (omega arith) (omega arith) (h.0 from line))
      (wider mid mid (mid + branches_count bs) high (entries_on (branches_entries mid bs)) (omega arith) (omega arith) (branches_spans mid bs h.1))

  case_good : (selector : Wire) (ts : List Tunnel) (bs : List BranchLines) → AllBranches bs → Good (case_lines selector ts bs)
  case_good selector ts bs h line z =
      let first : ℕ = line + 1 + length ts in
      let high : ℕ = line + (2 + length ts + branches_count bs) in
      let e : Entry = entry line z (Case selector ts (arms first bs)) in
      node_first line first high e (branches_entries first bs) (omega arith) (omega arith) (case_spans e selector ts (arms first bs) (bodies_once first bs))
      (wider first first (first + branches_count bs) high (entries_on (branches_entries first bs)) (omega arith) (omega arith) (branches_spans first bs h))

  -- a sequence: its own lines and the nodes of its frames lie between one another

  abbrev AllFrames : List FrameLines → Type 0
  AllFrames [] = Unit {0}
  AllFrames (f ∷ fs) = Good f.body × AllFrames fs

  abbrev frames_on : (e : Entry) → (before : List ℕ) → (line : ℕ) → List FrameLines → ℕ → ℕ
  frames_on e before line fs v = sources_on (parts_lines e before (parts line fs)) v + entries_on (frames_entries line fs) v

  frames_spans : (e : Entry) (before : List ℕ) (line : ℕ) (fs : List FrameLines) → IsOnce before → AllFrames fs → Spans line (line + frames_count fs) (frames_on e before line fs)
  frames_spans e before line [] once h = nowhere line (line + 0) (frames_on e before line []) (λ v. refl)
  frames_spans e before line (f ∷ fs) once h =
      let own : List Line = border_lines e (line ∷ []) before border (line + 1) f.lines in
      let from : ℕ = line + 2 + length f.lines in
      let es : List Entry = f.body.entries from line in
      let mid : ℕ = line + frame_count f in
      let high : ℕ = line + (frame_count f + frames_count fs) in
      let rest : Spans mid high (frames_on e (line ∷ []) mid fs) =
      wider mid mid (mid + frames_count fs) high (frames_on e (line ∷ []) mid fs) (omega arith) (omega arith) (frames_spans e (line ∷ []) mid fs (once_one line) h.1) in
      let here : Spans line mid (λ v. sources_on own v + entries_on es v) =
      both line from mid (sources_on own) (entries_on es) (omega arith) (omega arith)
      (wider (line + 1) line ((line + 1) + length f.lines) from (sources_on own) (omega arith) (omega arith) (border_spans e (line ∷ []) before border (line + 1) f.lines (once_one line) once))
      (wider from from (from + f.body.count) mid (entries_on es) (omega arith) (omega arith) (h.0 from line)) in
      alike line high (λ v. (sources_on own v + entries_on es v) + frames_on e (line ∷ []) mid fs v) (frames_on e before line (f ∷ fs))
      (λ v.
      let x : sources_on (own ++ parts_lines e (line ∷ []) (parts mid fs)) v ≡ sources_on own v + sources_on (parts_lines e (line ∷ []) (parts mid fs)) v =
      lines_at_both v k d own (parts_lines e (line ∷ []) (parts mid fs)) in
      let y : entries_on (es ++ frames_entries mid fs) v ≡ entries_on es v + entries_on (frames_entries mid fs) v = entries_both v es (frames_entries mid fs) in
      omega (arith, x, y))
      (both line mid high (λ v. sources_on own v + entries_on es v) (frames_on e (line ∷ []) mid fs) (omega arith) (omega arith) here rest)

  sequence_good : (fs : List FrameLines) → AllFrames fs → Good (sequence_lines fs)
  sequence_good fs h line z =
      let first : ℕ = line + 1 in
      let high : ℕ = line + (2 + frames_count fs) in
      let e : Entry = entry line z (Sequence (parts first fs)) in
      alike line high (frames_on e [] first fs) (entries_on (e ∷ frames_entries first fs))
      (λ v. lines_at_both v k d (parts_lines e [] (parts first fs)) (entries_lines free (frames_entries first fs)))
      (wider first line (first + frames_count fs) high (frames_on e [] first fs) (omega arith) (omega arith) (frames_spans e [] first fs once_none h))

  -- each node

  abbrev IsGood : Node → Type 0
  IsGood n = Good (lines_of n)

  abbrev GoodDiagram : Diagram → Type 0
  GoodDiagram x = Good (diagram_lines x)

  abbrev GoodBranch : Branch → Type 0
  GoodBranch b = Good (branch_lines b).body

  abbrev GoodFrame : SequenceFrame → Type 0
  GoodFrame f = Good (frame_lines f).body

  abbrev Node' : Type 0
  Node' = (n : Node) × IsGood n

  abbrev Branch' : Type 0
  Branch' = (b : Branch) × GoodBranch b

  abbrev Diagram' : Type 0
  Diagram' = (x : Diagram) × GoodDiagram x

  abbrev Frame' : Type 0
  Frame' = (f : SequenceFrame) × GoodFrame f

  nodes_good : (ps : List Node') → AllGood (map lines_of (map (λ p. p.0) ps))
  nodes_good [] = tt
  nodes_good (p ∷ ps) = (p.1, nodes_good ps)

  all_branches : (ps : List Branch') → AllBranches (map branch_lines (map (λ p. p.0) ps))
  all_branches [] = tt
  all_branches (p ∷ ps) = (p.1, all_branches ps)

  all_frames : (ps : List Frame') → AllFrames (map frame_lines (map (λ p. p.0) ps))
  all_frames [] = tt
  all_frames (p ∷ ps) = (p.1, all_frames ps)

  -- a node made by its variant
  rolled : (m n : Node) (l : Lines) → m ≡ n → lines_of n ≡ l → Good l → IsGood m
  rolled m n l e f g = subst IsGood (sym e) (subst Good (sym f) g)

  level : (y : Node-F Node' Branch' Diagram' Frame') → IsGood (roll-Node (map-Node Node' Branch' Diagram' Frame' Node Branch Diagram SequenceFrame (λ p. p.0) (λ p. p.0) (λ p. p.0) (λ p. p.0) y))
  level (Node-F.Const t l out) = rolled _ (node.Const t l out) _ (node.rolls-Const t l out) (by.lines-Const t l out) (one_good (kind.Const t l out) (source Outside out ∷ []) (λ e. refl))
  level (Node-F.Apply op inputs outputs) =
      rolled _ (node.Apply op inputs outputs) _ (node.rolls-Apply op inputs outputs) (by.lines-Apply op inputs outputs) (one_good (kind.Apply op inputs outputs) (in_and_out inputs outputs) (λ e. refl))
  level (Node-F.Shared op inputs outputs) =
      rolled _ (node.Shared op inputs outputs) _ (node.rolls-Shared op inputs outputs) (by.lines-Shared op inputs outputs) (one_good (kind.Shared op inputs outputs) (in_and_out inputs outputs) (λ e. refl))
  level (Node-F.Obtain queue size item out) =
      rolled _ (node.Obtain queue size item out) _ (node.rolls-Obtain queue size item out) (by.lines-Obtain queue size item out) (one_good (kind.Obtain queue size item out) (source Outside out ∷ []) (λ e. refl))
  level (Node-F.Read object out) = rolled _ (node.Read object out) _ (node.rolls-Read object out) (by.lines-Read object out) (one_good (kind.Read object out) (source Outside out ∷ []) (λ e. refl))
  level (Node-F.Write object input) = rolled _ (node.Write object input) _ (node.rolls-Write object input) (by.lines-Write object input) (one_good (kind.Write object input) (consumer Outside input ∷ []) (λ e. refl))
  level (Node-F.Call vi inputs outputs) =
      rolled _ (node.Call vi inputs outputs) _ (node.rolls-Call vi inputs outputs) (by.lines-Call vi inputs outputs)
      (one_good (kind.Call vi inputs outputs) (call_inputs (free vi) 0 inputs ++ map (source Outside) outputs) (λ e. refl))
  level (Node-F.For count iteration ts body) =
      rolled _ (node.For count iteration ts body.0) _ (node.rolls-For count iteration ts body.0) (by.lines-For count iteration ts body.0)
      (loop_good ts (diagram_lines body.0) (λ first finish. kind.Loop (Some count) None iteration ts first)
      (λ line z b f. header_spans (entry line z (kind.Loop (Some count) None iteration ts b)) b (loop_header (Some count) None iteration) ts) body.1)
  level (Node-F.While stop iteration ts body) =
      rolled _ (node.While stop iteration ts body.0) _ (node.rolls-While stop iteration ts body.0) (by.lines-While stop iteration ts body.0)
      (loop_good ts (diagram_lines body.0) (λ first finish. kind.Loop None (Some stop) iteration ts first)
      (λ line z b f. header_spans (entry line z (kind.Loop None (Some stop) iteration ts b)) b (loop_header None (Some stop) iteration) ts) body.1)
  level (Node-F.Case selector ts branches) =
      let bs : List Branch = map (λ (p : Branch'). p.0) branches in
      rolled _ (node.Case selector ts bs) _ (node.rolls-Case selector ts bs) (by.lines-Case selector ts bs) (case_good selector ts (map branch_lines bs) (all_branches branches))
  level (Node-F.Sequence frames) =
      let fs : List SequenceFrame = map (λ (p : Frame'). p.0) frames in
      rolled _ (node.Sequence fs) _ (node.rolls-Sequence fs) (by.lines-Sequence fs) (sequence_good (map frame_lines fs) (all_frames frames))
  level (Node-F.InPlace ts body) =
      rolled _ (node.InPlace ts body.0) _ (node.rolls-InPlace ts body.0) (by.lines-InPlace ts body.0)
      (loop_good ts (diagram_lines body.0) (kind.InPlace ts) (λ line z b f. place_spans (entry line z (kind.InPlace ts b f)) b ts) body.1)

  branch_level : (y : Branch-F Node' Branch' Diagram' Frame') → GoodBranch (roll-Branch (map-Branch Node' Branch' Diagram' Frame' Node Branch Diagram SequenceFrame (λ p. p.0) (λ p. p.0) (λ p. p.0) (λ p. p.0) y))
  branch_level y =
      subst (λ (l : BranchLines). Good l.body) (sym (by.lines-branch (roll-Branch (map-Branch Node' Branch' Diagram' Frame' Node Branch Diagram SequenceFrame (λ p. p.0) (λ p. p.0) (λ p. p.0) (λ p. p.0) y)))) y.body.1

  frame_level : (y : SequenceFrame-F Node' Branch' Diagram' Frame')
      → GoodFrame (roll-SequenceFrame (map-SequenceFrame Node' Branch' Diagram' Frame' Node Branch Diagram SequenceFrame (λ p. p.0) (λ p. p.0) (λ p. p.0) (λ p. p.0) y))
  frame_level y =
      subst (λ (l : FrameLines). Good l.body)
      (sym (by.lines-frame (roll-SequenceFrame (map-SequenceFrame Node' Branch' Diagram' Frame' Node Branch Diagram SequenceFrame (λ p. p.0) (λ p. p.0) (λ p. p.0) (λ p. p.0) y)))) y.body.1

  diagram_level : (y : Diagram-F Node' Branch' Diagram' Frame') → GoodDiagram (roll-Diagram (map-Diagram Node' Branch' Diagram' Frame' Node Branch Diagram SequenceFrame (λ p. p.0) (λ p. p.0) (λ p. p.0) (λ p. p.0) y))
  diagram_level y =
      subst Good (sym (by.lines-diagram (roll-Diagram (map-Diagram Node' Branch' Diagram' Frame' Node Branch Diagram SequenceFrame (λ p. p.0) (λ p. p.0) (λ p. p.0) (λ p. p.0) y))))
      (all_good (map lines_of (map (λ p. p.0) y.nodes)) (nodes_good y.nodes))

  node_good : (n : Node) → IsGood n
  node_good = ind-Node IsGood GoodBranch GoodDiagram GoodFrame
      (λ x y is. subst (λ z. IsGood (roll-Node z)) is (level y))
      (λ x y is. subst (λ z. GoodBranch (roll-Branch z)) is (branch_level y))
      (λ x y is. subst (λ z. GoodDiagram (roll-Diagram z)) is (diagram_level y))
      (λ x y is. subst (λ z. GoodFrame (roll-SequenceFrame z)) is (frame_level y))

  -- the lines of a VI

  nodes_spans : (ns : List Node) (line z : ℕ) → Spans line (line + count_of (map lines_of ns)) (entries_on (nodes_entries ns line z))
  nodes_spans [] line z = nowhere line (line + 0) (entries_on []) (λ v. refl)
  nodes_spans (n ∷ ns) line z =
      let mid : ℕ = line + (lines_of n).count in
      let high : ℕ = line + ((lines_of n).count + count_of (map lines_of ns)) in
      entries_spans line mid high ((lines_of n).entries line z) (nodes_entries ns mid z) (omega arith) (omega arith) (node_good n line z)
      (wider mid mid (mid + count_of (map lines_of ns)) high (entries_on (nodes_entries ns mid z)) (omega arith) (omega arith) (nodes_spans ns mid z))

  -- an indicator is no source
  shown_none : (v : ℕ) (items : List PanelItem) (line : ℕ) → entries_on (panel_entries items line) v ≡ 0
  shown_none v [] line = refl
  shown_none v (Indicator name t (Some w) ∷ items) line = let e : entries_on (panel_entries items (line + 1)) v ≡ 0 = shown_none v items (line + 1) in omega (arith, e)
  shown_none v (Indicator name t None ∷ items) line = shown_none v items (line + 1)
  shown_none v (Control name t required default out ∷ items) line = shown_none v items (line + 1)

  controls_spans : (line : ℕ) (items : List PanelItem) → Spans line (line + length items) (sources_on (control_lines line items))
  controls_spans line [] = nowhere line (line + 0) (sources_on []) (λ v. refl)
  controls_spans line (Control name t required default out ∷ items) =
      line_first (control_line line out) (control_lines (line + 1) items) (line + suc (length items)) (once_one 0) once_none (omega arith)
      (wider (line + 1) (line + 1) ((line + 1) + length items) (line + suc (length items)) (sources_on (control_lines (line + 1) items)) (omega arith) (omega arith) (controls_spans (line + 1) items))
  controls_spans line (Indicator name t w ∷ items) =
      wider (line + 1) line ((line + 1) + length items) (line + suc (length items)) (sources_on (control_lines (line + 1) items)) (omega arith) (omega arith) (controls_spans (line + 1) items)

  vi_spans : (vi : Vi) → Spans 1 ((1 + length vi.panel) + count_of (map lines_of vi.top.nodes)) (sources_on (control_lines 1 vi.panel ++ entries_lines free (entries_of vi)))
  vi_spans vi =
      let mid : ℕ = 1 + length vi.panel in
      let high : ℕ = mid + count_of (map lines_of vi.top.nodes) in
      lines_spans 1 mid high (control_lines 1 vi.panel) (entries_lines free (entries_of vi)) (omega arith) (omega arith) (controls_spans 1 vi.panel)
      (entries_spans mid mid high (panel_entries vi.panel 1) (nodes_entries vi.top.nodes mid 0) (omega arith) (omega arith)
      (nowhere mid mid (entries_on (panel_entries vi.panel 1)) (λ v. shown_none v vi.panel 1))
      (nodes_spans vi.top.nodes mid 0))

-- no two sources of a VI stand at one operand of a line in one diagram
pub places_once : (vis : List Vi) (vi : Vi) (v k d : ℕ) → places_count v k d (ports_of vis vi) ≤ 1
places_once vis vi v k d =
    let s : Spans 1 ((1 + length vi.panel) + count_of (map lines_of vi.top.nodes)) (λ u. lines_at u k d (control_lines 1 vi.panel ++ entries_lines (freedom vis) (entries_of vi))) =
    vi_spans (freedom vis) k d vi in
    let x : lines_at v k d (control_lines 1 vi.panel ++ entries_lines (freedom vis) (entries_of vi)) ≤ 1 = s.once v in
    let e : places_count v k d (ports_of vis vi) ≡ lines_at v k d (control_lines 1 vi.panel ++ entries_lines (freedom vis) (entries_of vi)) =
    ports_at v k d (control_lines 1 vi.panel ++ entries_lines (freedom vis) (entries_of vi)) in
    omega (arith, x, e)
