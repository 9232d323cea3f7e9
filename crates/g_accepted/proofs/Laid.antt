-- The lines of a VI: each that has operands has a number of its own, and its nodes stand by line.
use Rattle.std.proofs.Common.{◌≡◌, inl, inr, ℕ, suc, ◌+◌, ◌<◌, ◌≤◌, ◌==◌, Bool, true, false, List, [], ◌∷◌, ◌++◌, map, length, refl, ap, sym, subst, arith}
use Rattle.std.specs.Prelude.{Some, None, ◌⊎◌}
use Rattle.g_diagram.specs.declared.node.Tunnel.{Tunnel}
use Rattle.g_diagram.specs.declared.node.Node.{Node}
use Rattle.g_diagram.specs.declared.node.Branch.{Branch}
use Rattle.g_diagram.specs.declared.node.Diagram.{Diagram}
use Rattle.g_diagram.specs.declared.node.SequenceFrame.{SequenceFrame}
use Rattle.g_diagram.specs.declared.node.Node.TheViews.{roll-Node, roll-Branch, roll-Diagram, roll-SequenceFrame}
use Rattle.g_diagram.specs.declared.node.Node.TheOpen.{Node-F, Branch-F, Diagram-F, SequenceFrame-F}
use Rattle.g_diagram.specs.declared.node.Node.TheFolds.{ind-Node, map-Node, map-Branch, map-Diagram, map-SequenceFrame, fold-roll-Node}
use Rattle.g_diagram.specs.declared.panel.PanelItem.{PanelItem}
use Rattle.g_diagram.specs.declared.panel.PanelItem.TheVariants.{Control, Indicator}
use Rattle.g_diagram.specs.declared.hierarchy.Vi.{Vi}
use Rattle.g_diagram.specs.Lines.{Wire, Lines, BranchLines, FrameLines, Arm, Entry, Kind, entry, one_line, loop_lines, in_order, count_of, entries_in, give_lines, branch_count, branches_count, branches_entries, arms, frame_count, frames_count, frames_entries, parts, lines_of, node_step, branch_step, diagram_step, frame_step, nodes_entries, panel_entries, entries_of, Case, Sequence}
use Rattle.g_diagram.specs.Lines as kind
use Rattle.g_diagram.specs.Operands.{Operand, Outside, Inside, Line, Freedom, source, consumer, free_consumer, border, case_border, plain_line, header_line, border_lines, parts_lines, give_line, call_inputs, in_and_out, loop_header, kind_lines, entries_lines, control_line, control_lines}
use Rattle.g_diagram.proofs.LineLemmas.{diagram_lines, branch_lines, frame_lines, case_lines, sequence_lines, lines-diagram, lines-branch, lines-frame, in_turn}
use Rattle.g_accepted.proofs.Spans.{Spans, nowhere, wider, alike, both}

abbrev pub hit : Bool → ℕ
hit true = 1
hit false = 0

pub hit_one : (b : Bool) → hit b ≤ 1
hit_one true = omega arith
hit_one false = omega arith

-- a line that has operands counts
abbrev pub line_hit : List Operand → Bool → ℕ
line_hit [] b = 0
line_hit (o ∷ os) b = hit b

abbrev pub lines_at : (v : ℕ) → List Line → ℕ
lines_at v [] = 0
lines_at v (l ∷ ls) = line_hit l.operands (l.line == v) + lines_at v ls

line_one : (os : List Operand) (b : Bool) → line_hit os b ≤ 1
line_one [] b = omega arith
line_one (o ∷ os) b = hit_one b

line_not : (os : List Operand) (b : Bool) → b ≡ false → line_hit os b ≡ 0
line_not [] b e = refl
line_not (o ∷ os) b e = ap hit e

apart_off : (x y : ℕ) → (x < y) ⊎ (y < x) → (x == y) ≡ false
apart_off x y (inl h) = grind (arith, h)
apart_off x y (inr h) = grind (arith, h)

pub at_both : (v : ℕ) (xs ys : List Line) → lines_at v (xs ++ ys) ≡ lines_at v xs + lines_at v ys
at_both v [] ys = omega arith
at_both v (x ∷ xs) ys = let e : lines_at v (xs ++ ys) ≡ lines_at v xs + lines_at v ys = at_both v xs ys in omega (arith, e)

-- ---- nodes by line

-- from a line on and below another, each on a later line than the one before
abbrev pub Rises : (low high : ℕ) → List Entry → Type 0
Rises low high [] = low ≤ high
Rises low high (e ∷ es) = (low ≤ e.line) × Rises (suc e.line) high es

rises_wider : (low lower high higher : ℕ) (es : List Entry) → lower ≤ low → high ≤ higher → Rises low high es → Rises lower higher es
rises_wider low lower high higher [] l h r = omega (arith, l, h, r)
rises_wider low lower high higher (e ∷ es) l h r = (let x = r.0 in omega (arith, l, x), rises_wider (suc e.line) (suc e.line) high higher es (omega arith) h r.1)

rises_both : (low mid high : ℕ) (xs ys : List Entry) → Rises low mid xs → Rises mid high ys → Rises low high (xs ++ ys)
rises_both low mid high [] ys r s = rises_wider mid low high high ys r (omega arith) s
rises_both low mid high (x ∷ xs) ys r s = (r.0, rises_both (suc x.line) mid high xs ys r.1 s)

module _ (free : Freedom) where
  abbrev pub entries_at : List Entry → ℕ → ℕ
  entries_at es v = lines_at v (entries_lines free es)

  abbrev pub on : List Line → ℕ → ℕ
  on ls v = lines_at v ls

  -- some nodes stand so, and their lines
  record Laid (low high : ℕ) (es : List Entry) : Type 0 where
    lines : Spans low high (entries_at es)
    rises : Rises low high es

  line_spans : (l : Line) → Spans l.line (l.line + 1) (λ v. line_hit l.operands (l.line == v))
  line_spans l = record {
    once = λ v. line_one l.operands (l.line == v);
    before = λ v lt. line_not l.operands (l.line == v) (apart_off l.line v (inr lt));
    after = λ v le. line_not l.operands (l.line == v) (apart_off l.line v (inl (omega (arith, le))));
  }

  line_first : (l : Line) (ls : List Line) (high : ℕ) → l.line < high → Spans (l.line + 1) high (on ls) → Spans l.line high (on (l ∷ ls))
  line_first l ls high lt s = both l.line (l.line + 1) high (λ v. line_hit l.operands (l.line == v)) (on ls) (omega arith) (omega (arith, lt)) (line_spans l) s

  border_spans : (e : Entry) (inside before : List ℕ) (form : Tunnel → List Operand) (l : ℕ) (ts : List Tunnel) → Spans l (l + length ts) (on (border_lines e inside before form l ts))
  border_spans e inside before form l [] = nowhere l (l + 0) (on []) (λ v. refl)
  border_spans e inside before form l (t ∷ ts) =
      line_first (record { line = l; node = e.line; outside = e.diagram; inside = inside; before = before; operands = form t })
      (border_lines e inside before form (l + 1) ts) (l + suc (length ts)) (omega arith)
      (wider (l + 1) (l + 1) ((l + 1) + length ts) (l + suc (length ts)) _ (omega arith) (omega arith) (border_spans e inside before form (l + 1) ts))

  lines_spans : (low mid high : ℕ) (xs ys : List Line) → low ≤ mid → mid ≤ high → Spans low mid (on xs) → Spans mid high (on ys) → Spans low high (on (xs ++ ys))
  lines_spans low mid high xs ys l h s t =
      alike low high (λ v. on xs v + on ys v) (on (xs ++ ys)) (λ v. at_both v xs ys) (both low mid high (on xs) (on ys) l h s t)

  entries_both : (v : ℕ) (xs ys : List Entry) → entries_at (xs ++ ys) v ≡ entries_at xs v + entries_at ys v
  entries_both v [] ys = omega arith
  entries_both v (x ∷ xs) ys =
      let a : entries_at (x ∷ (xs ++ ys)) v ≡ on (kind_lines free x x.kind) v + entries_at (xs ++ ys) v = at_both v (kind_lines free x x.kind) (entries_lines free (xs ++ ys)) in
      let b : entries_at (x ∷ xs) v ≡ on (kind_lines free x x.kind) v + entries_at xs v = at_both v (kind_lines free x x.kind) (entries_lines free xs) in
      let e : entries_at (xs ++ ys) v ≡ entries_at xs v + entries_at ys v = entries_both v xs ys in
      omega (arith, a, b, e)

  laid_none : (low high : ℕ) → low ≤ high → Laid low high []
  laid_none low high le = record { lines = nowhere low high (entries_at []) (λ v. refl); rises = le }

  laid_wider : (low lower high higher : ℕ) (es : List Entry) → lower ≤ low → high ≤ higher → Laid low high es → Laid lower higher es
  laid_wider low lower high higher es l h w =
      record { lines = wider low lower high higher (entries_at es) l h w.lines; rises = rises_wider low lower high higher es l h w.rises }

  laid_both : (low mid high : ℕ) (xs ys : List Entry) → low ≤ mid → mid ≤ high → Laid low mid xs → Laid mid high ys → Laid low high (xs ++ ys)
  laid_both low mid high xs ys l h v w = record {
    lines = alike low high (λ x. entries_at xs x + entries_at ys x) (entries_at (xs ++ ys)) (λ x. entries_both x xs ys)
        (both low mid high (entries_at xs) (entries_at ys) l h v.lines w.lines);
    rises = rises_both low mid high xs ys v.rises w.rises;
  }

  -- a node before the nodes inside
  laid_first : (low mid high : ℕ) (e : Entry) (es : List Entry) → low ≤ e.line → e.line < mid → mid ≤ high → Spans low mid (on (kind_lines free e e.kind)) → Laid mid high es
      → Laid low high (e ∷ es)
  laid_first low mid high e es l m h s w = record {
    lines = lines_spans low mid high (kind_lines free e e.kind) (entries_lines free es) (omega (arith, l, m)) h s w.lines;
    rises = (l, rises_wider mid (suc e.line) high high es (omega (arith, m)) (omega arith) w.rises);
  }

  -- lines that stand so, wherever they begin
  abbrev Good : Lines → Type 0
  Good n = (line z : ℕ) → Laid line (line + n.count) (n.entries line z)

  plain_spans : (e : Entry) (ops : List Operand) → Spans e.line (e.line + 1) (on (plain_line e ops ∷ []))
  plain_spans e ops = line_first (plain_line e ops) [] (e.line + 1) (omega arith) (nowhere (e.line + 1) (e.line + 1) (on []) (λ v. refl))

  one_good : (n : Kind) (ops : List Operand) → ((e : Entry) → kind_lines free e n ≡ plain_line e ops ∷ []) → Good (one_line n)
  one_good n ops is line z =
      let e : Entry = entry line z n in
      laid_first line (line + 1) (line + 1) e [] (omega arith) (omega arith) (omega arith)
      (let P : List Line → Type 0 = λ ls. Spans line (line + 1) (on ls) in subst P (sym (is e)) (plain_spans e ops))
      (laid_none (line + 1) (line + 1) (omega arith))

  abbrev AllGood : List Lines → Type 0
  AllGood [] = Unit {0}
  AllGood (n ∷ ns) = Good n × AllGood ns

  all_good : (ns : List Lines) → AllGood ns → Good (in_order ns)
  all_good [] h line z = laid_none line (line + 0) (omega arith)
  all_good (n ∷ ns) h line z =
      let mid : ℕ = line + n.count in
      let high : ℕ = line + (n.count + count_of ns) in
      laid_both line mid high (n.entries line z) (entries_in ns mid z) (omega arith) (omega arith) (h.0 line z)
      (laid_wider mid mid (mid + count_of ns) high (entries_in ns mid z) (omega arith) (omega arith) (all_good ns h.1 mid z))

  -- the lines of a node with its own operands stand before its body
  loop_good : (ts : List Tunnel) (body : Lines) (n : (body finish : ℕ) → Kind)
      → ((line z b f : ℕ) → Spans line (line + 1 + length ts) (on (kind_lines free (entry line z (n b f)) (n b f)))) → Good body → Good (loop_lines ts body n)
  loop_good ts body n own good line z =
      let first : ℕ = line + 1 + length ts in
      let high : ℕ = line + (3 + length ts + body.count) in
      let es : List Entry = body.entries (first + 1) first in
      laid_first line first high (entry line z (n first (first + 1 + body.count))) es (omega arith) (omega arith) (omega arith) (own line z first (first + 1 + body.count))
      (laid_wider (first + 1) first ((first + 1) + body.count) high es (omega arith) (omega arith) (good (first + 1) first))

  header_spans : (e : Entry) (b : ℕ) (ops : List Operand) (ts : List Tunnel)
      → Spans e.line (e.line + 1 + length ts) (on (header_line e b ops ∷ border_lines e (b ∷ []) [] border (e.line + 1) ts))
  header_spans e b ops ts =
      line_first (header_line e b ops) (border_lines e (b ∷ []) [] border (e.line + 1) ts) (e.line + 1 + length ts) (omega arith) (border_spans e (b ∷ []) [] border (e.line + 1) ts)

  place_spans : (e : Entry) (b : ℕ) (ts : List Tunnel) → Spans e.line (e.line + 1 + length ts) (on (border_lines e (b ∷ []) [] border (e.line + 1) ts))
  place_spans e b ts =
      wider (e.line + 1) e.line (e.line + 1 + length ts) (e.line + 1 + length ts) (on (border_lines e (b ∷ []) [] border (e.line + 1) ts)) (omega arith) (omega arith)
      (border_spans e (b ∷ []) [] border (e.line + 1) ts)

  -- ---- a case: a `give` line, if it has operands, and the nodes of a branch stand after its `when`

  abbrev AllBranches : List BranchLines → Type 0
  AllBranches [] = Unit {0}
  AllBranches (b ∷ bs) = Good b.body × AllBranches bs

  give_spans : (e : Entry) (a : Arm) → Spans (a.body + 1) (a.body + 1 + give_lines a.gives) (on (give_line e a ∷ []))
  give_spans e a = by a.gives refl
    where
      by : (ws : List Wire) → a.gives ≡ ws → Spans (a.body + 1) (a.body + 1 + give_lines ws) (on (give_line e a ∷ []))
      by [] same =
          nowhere (a.body + 1) (a.body + 1 + 0) (on (give_line e a ∷ []))
          (λ v. let P : List Wire → Type 0 = λ ws. line_hit (map (free_consumer Inside) ws) (a.body + 1 == v) + 0 ≡ 0 in subst P (sym same) refl)
      by (w ∷ ws) same =
          wider (a.body + 1) (a.body + 1) (a.body + 1 + 1) (a.body + 1 + 1) (on (give_line e a ∷ [])) (omega arith) (omega arith)
          (line_first (give_line e a) [] (a.body + 1 + 1) (omega arith) (nowhere (a.body + 1 + 1) (a.body + 1 + 1) (on []) (λ v. refl)))

  abbrev branches_on : (e : Entry) → (line : ℕ) → List BranchLines → ℕ → ℕ
  branches_on e line bs v = on (map (give_line e) (arms line bs)) v + entries_at (branches_entries line bs) v

  branches_spans : (e : Entry) (line : ℕ) (bs : List BranchLines) → AllBranches bs → Spans line (line + branches_count bs) (branches_on e line bs)
  branches_spans e line [] h = nowhere line (line + 0) (branches_on e line []) (λ v. refl)
  branches_spans e line (b ∷ bs) h =
      let a : Arm = record { selectors = b.selectors; gives = b.gives; body = line } in
      let from : ℕ = line + 1 + give_lines b.gives in
      let es : List Entry = b.body.entries from line in
      let mid : ℕ = line + branch_count b in
      let high : ℕ = line + (branch_count b + branches_count bs) in
      let inner : Laid from (from + b.body.count) es = h.0 from line in
      let here : Spans line mid (λ v. on (give_line e a ∷ []) v + entries_at es v) =
      both line from mid (on (give_line e a ∷ [])) (entries_at es) (omega arith) (omega arith)
      (wider (line + 1) line from from (on (give_line e a ∷ [])) (omega arith) (omega arith) (give_spans e a))
      (wider from from (from + b.body.count) mid (entries_at es) (omega arith) (omega arith) inner.lines) in
      let rest : Spans mid high (branches_on e mid bs) =
      wider mid mid (mid + branches_count bs) high (branches_on e mid bs) (omega arith) (omega arith) (branches_spans e mid bs h.1) in
      alike line high (λ v. (on (give_line e a ∷ []) v + entries_at es v) + branches_on e mid bs v) (branches_on e line (b ∷ bs))
      (λ v.
      let y : entries_at (es ++ branches_entries mid bs) v ≡ entries_at es v + entries_at (branches_entries mid bs) v = entries_both v es (branches_entries mid bs) in
      omega (arith, y))
      (both line mid high (λ v. on (give_line e a ∷ []) v + entries_at es v) (branches_on e mid bs) (omega arith) (omega arith) here rest)

  branches_rise : (line : ℕ) (bs : List BranchLines) → AllBranches bs → Rises line (line + branches_count bs) (branches_entries line bs)
  branches_rise line [] h = omega arith
  branches_rise line (b ∷ bs) h =
      let from : ℕ = line + 1 + give_lines b.gives in
      let mid : ℕ = line + branch_count b in
      let high : ℕ = line + (branch_count b + branches_count bs) in
      let inner : Laid from (from + b.body.count) (b.body.entries from line) = h.0 from line in
      rises_both line mid high (b.body.entries from line) (branches_entries mid bs)
      (rises_wider from line (from + b.body.count) mid (b.body.entries from line) (omega arith) (omega arith) inner.rises)
      (rises_wider mid mid (mid + branches_count bs) high (branches_entries mid bs) (omega arith) (omega arith) (branches_rise mid bs h.1))

  case_good : (selector : Wire) (ts : List Tunnel) (bs : List BranchLines) → AllBranches bs → Good (case_lines selector ts bs)
  case_good selector ts bs h line z =
      let first : ℕ = line + 1 + length ts in
      let high : ℕ = line + (2 + length ts + branches_count bs) in
      let e : Entry = entry line z (Case selector ts (arms first bs)) in
      let header : Line = plain_line e (consumer Outside selector ∷ []) in
      let ls : List Line = border_lines e (map (λ a. a.body) (arms first bs)) [] case_border (line + 1) ts in
      let own : Spans line first (on (header ∷ ls)) =
      line_first header ls first (omega arith) (border_spans e (map (λ a. a.body) (arms first bs)) [] case_border (line + 1) ts) in
      let rest : Spans first high (branches_on e first bs) =
      wider first first (first + branches_count bs) high (branches_on e first bs) (omega arith) (omega arith) (branches_spans e first bs h) in
      record {
        lines = alike line high (λ v. on (header ∷ ls) v + branches_on e first bs v) (entries_at (e ∷ branches_entries first bs))
            (λ v.
            let x : on ((header ∷ ls ++ map (give_line e) (arms first bs)) ++ entries_lines free (branches_entries first bs)) v
            ≡ on (header ∷ ls ++ map (give_line e) (arms first bs)) v + entries_at (branches_entries first bs) v =
            at_both v (header ∷ ls ++ map (give_line e) (arms first bs)) (entries_lines free (branches_entries first bs)) in
            let y : on (ls ++ map (give_line e) (arms first bs)) v ≡ on ls v + on (map (give_line e) (arms first bs)) v = at_both v ls (map (give_line e) (arms first bs)) in
            omega (arith, x, y))
            (both line first high (on (header ∷ ls)) (branches_on e first bs) (omega arith) (omega arith) own rest);
        rises = (
          omega arith,
          rises_wider first (suc line) (first + branches_count bs) high (branches_entries first bs) (omega arith) (omega arith) (branches_rise first bs h),
        );
      }

  -- ---- a sequence: its own lines and the nodes of its frames lie between one another

  abbrev AllFrames : List FrameLines → Type 0
  AllFrames [] = Unit {0}
  AllFrames (f ∷ fs) = Good f.body × AllFrames fs

  abbrev frames_on : (e : Entry) → (before : List ℕ) → (line : ℕ) → List FrameLines → ℕ → ℕ
  frames_on e before line fs v = on (parts_lines e before (parts line fs)) v + entries_at (frames_entries line fs) v

  frames_spans : (e : Entry) (before : List ℕ) (line : ℕ) (fs : List FrameLines) → AllFrames fs → Spans line (line + frames_count fs) (frames_on e before line fs)
  frames_spans e before line [] h = nowhere line (line + 0) (frames_on e before line []) (λ v. refl)
  frames_spans e before line (f ∷ fs) h =
      let own : List Line = border_lines e (line ∷ []) before border (line + 1) f.lines in
      let from : ℕ = line + 2 + length f.lines in
      let es : List Entry = f.body.entries from line in
      let mid : ℕ = line + frame_count f in
      let high : ℕ = line + (frame_count f + frames_count fs) in
      let inner : Laid from (from + f.body.count) es = h.0 from line in
      let rest : Spans mid high (frames_on e (line ∷ []) mid fs) =
      wider mid mid (mid + frames_count fs) high (frames_on e (line ∷ []) mid fs) (omega arith) (omega arith) (frames_spans e (line ∷ []) mid fs h.1) in
      let here : Spans line mid (λ v. on own v + entries_at es v) =
      both line from mid (on own) (entries_at es) (omega arith) (omega arith)
      (wider (line + 1) line ((line + 1) + length f.lines) from (on own) (omega arith) (omega arith) (border_spans e (line ∷ []) before border (line + 1) f.lines))
      (wider from from (from + f.body.count) mid (entries_at es) (omega arith) (omega arith) inner.lines) in
      alike line high (λ v. (on own v + entries_at es v) + frames_on e (line ∷ []) mid fs v) (frames_on e before line (f ∷ fs))
      (λ v.
      let x : on (own ++ parts_lines e (line ∷ []) (parts mid fs)) v ≡ on own v + on (parts_lines e (line ∷ []) (parts mid fs)) v =
      at_both v own (parts_lines e (line ∷ []) (parts mid fs)) in
      let y : entries_at (es ++ frames_entries mid fs) v ≡ entries_at es v + entries_at (frames_entries mid fs) v = entries_both v es (frames_entries mid fs) in
      omega (arith, x, y))
      (both line mid high (λ v. on own v + entries_at es v) (frames_on e (line ∷ []) mid fs) (omega arith) (omega arith) here rest)

  frames_rise : (line : ℕ) (fs : List FrameLines) → AllFrames fs → Rises line (line + frames_count fs) (frames_entries line fs)
  frames_rise line [] h = omega arith
  frames_rise line (f ∷ fs) h =
      let from : ℕ = line + 2 + length f.lines in
      let mid : ℕ = line + frame_count f in
      let high : ℕ = line + (frame_count f + frames_count fs) in
      let inner : Laid from (from + f.body.count) (f.body.entries from line) = h.0 from line in
      rises_both line mid high (f.body.entries from line) (frames_entries mid fs)
      (rises_wider from line (from + f.body.count) mid (f.body.entries from line) (omega arith) (omega arith) inner.rises)
      (rises_wider mid mid (mid + frames_count fs) high (frames_entries mid fs) (omega arith) (omega arith) (frames_rise mid fs h.1))

  sequence_good : (fs : List FrameLines) → AllFrames fs → Good (sequence_lines fs)
  sequence_good fs h line z =
      let first : ℕ = line + 1 in
      let high : ℕ = line + (2 + frames_count fs) in
      let e : Entry = entry line z (Sequence (parts first fs)) in
      record {
        lines = alike line high (frames_on e [] first fs) (entries_at (e ∷ frames_entries first fs))
            (λ v. at_both v (parts_lines e [] (parts first fs)) (entries_lines free (frames_entries first fs)))
            (wider first line (first + frames_count fs) high (frames_on e [] first fs) (omega arith) (omega arith) (frames_spans e [] first fs h));
        rises = (
          omega arith,
          rises_wider first (suc line) (first + frames_count fs) high (frames_entries first fs) (omega arith) (omega arith) (frames_rise first fs h),
        );
      }

  -- ---- each node

  abbrev IsGood : Node → Type 0
  IsGood n = Good (lines_of n)

  abbrev GoodDiagram : Diagram → Type 0
  GoodDiagram x = Good (diagram_lines x)

  abbrev GoodBranch : Branch → Type 0
  GoodBranch b = Good (branch_lines b).body

  abbrev GoodFrame : SequenceFrame → Type 0
  GoodFrame f = Good (frame_lines f).body

  abbrev Node' : Type 0
  Node' = (n : Node) × IsGood n

  abbrev Branch' : Type 0
  Branch' = (b : Branch) × GoodBranch b

  abbrev Diagram' : Type 0
  Diagram' = (x : Diagram) × GoodDiagram x

  abbrev Frame' : Type 0
  Frame' = (f : SequenceFrame) × GoodFrame f

  nodes_good : (ps : List Node') → AllGood (map lines_of (map (λ p. p.0) ps))
  nodes_good [] = tt
  nodes_good (p ∷ ps) = (p.1, nodes_good ps)

  all_branches : (ps : List Branch') → AllBranches (map branch_lines (map (λ p. p.0) ps))
  all_branches [] = tt
  all_branches (p ∷ ps) = (p.1, all_branches ps)

  all_frames : (ps : List Frame') → AllFrames (map frame_lines (map (λ p. p.0) ps))
  all_frames [] = tt
  all_frames (p ∷ ps) = (p.1, all_frames ps)

  -- a node without what is said of its parts
  abbrev bare : Node-F Node' Branch' Diagram' Frame' → Node-F Node Branch Diagram SequenceFrame
  bare = map-Node Node' Branch' Diagram' Frame' Node Branch Diagram SequenceFrame (λ p. p.0) (λ p. p.0) (λ p. p.0) (λ p. p.0)

  step_good : (y : Node-F Node' Branch' Diagram' Frame') → Good (node_step (map-Node Node Branch Diagram SequenceFrame Lines BranchLines Lines FrameLines lines_of branch_lines diagram_lines frame_lines (bare y)))
  step_good (Node-F.Const t l out) = one_good (kind.Const t l out) (source Outside out ∷ []) (λ e. refl)
  step_good (Node-F.Apply op inputs outputs) = one_good (kind.Apply op inputs outputs) (in_and_out inputs outputs) (λ e. refl)
  step_good (Node-F.Shared op inputs outputs) = one_good (kind.Shared op inputs outputs) (in_and_out inputs outputs) (λ e. refl)
  step_good (Node-F.Obtain queue size item out) = one_good (kind.Obtain queue size item out) (source Outside out ∷ []) (λ e. refl)
  step_good (Node-F.Read object out) = one_good (kind.Read object out) (source Outside out ∷ []) (λ e. refl)
  step_good (Node-F.Write object input) = one_good (kind.Write object input) (consumer Outside input ∷ []) (λ e. refl)
  step_good (Node-F.Call vi inputs outputs) = one_good (kind.Call vi inputs outputs) (call_inputs (free vi) 0 inputs ++ map (source Outside) outputs) (λ e. refl)
  step_good (Node-F.For count iteration ts body) =
      loop_good ts (diagram_lines body.0) (λ first finish. kind.Loop (Some count) None iteration ts first)
      (λ line z b f. header_spans (entry line z (kind.Loop (Some count) None iteration ts b)) b (loop_header (Some count) None iteration) ts) body.1
  step_good (Node-F.While stop iteration ts body) =
      loop_good ts (diagram_lines body.0) (λ first finish. kind.Loop None (Some stop) iteration ts first)
      (λ line z b f. header_spans (entry line z (kind.Loop None (Some stop) iteration ts b)) b (loop_header None (Some stop) iteration) ts) body.1
  step_good (Node-F.InPlace ts body) = loop_good ts (diagram_lines body.0) (kind.InPlace ts) (λ line z b f. place_spans (entry line z (kind.InPlace ts b f)) b ts) body.1
  step_good (Node-F.Case selector ts branches) = case_good selector ts _ (all_branches branches)
  step_good (Node-F.Sequence frames) = sequence_good _ (all_frames frames)

  level : (y : Node-F Node' Branch' Diagram' Frame') → IsGood (roll-Node (bare y))
  level y = subst Good (sym (fold-roll-Node Lines BranchLines Lines FrameLines node_step branch_step diagram_step frame_step (bare y))) (step_good y)

  abbrev bare_branch : Branch-F Node' Branch' Diagram' Frame' → Branch-F Node Branch Diagram SequenceFrame
  bare_branch = map-Branch Node' Branch' Diagram' Frame' Node Branch Diagram SequenceFrame (λ p. p.0) (λ p. p.0) (λ p. p.0) (λ p. p.0)

  branch_level : (y : Branch-F Node' Branch' Diagram' Frame') → GoodBranch (roll-Branch (bare_branch y))
  branch_level y = subst (λ (l : BranchLines). Good l.body) (sym (lines-branch (roll-Branch (bare_branch y)))) y.body.1

  abbrev bare_frame : SequenceFrame-F Node' Branch' Diagram' Frame' → SequenceFrame-F Node Branch Diagram SequenceFrame
  bare_frame = map-SequenceFrame Node' Branch' Diagram' Frame' Node Branch Diagram SequenceFrame (λ p. p.0) (λ p. p.0) (λ p. p.0) (λ p. p.0)

  frame_level : (y : SequenceFrame-F Node' Branch' Diagram' Frame') → GoodFrame (roll-SequenceFrame (bare_frame y))
  frame_level y = subst (λ (l : FrameLines). Good l.body) (sym (lines-frame (roll-SequenceFrame (bare_frame y)))) y.body.1

  abbrev bare_diagram : Diagram-F Node' Branch' Diagram' Frame' → Diagram-F Node Branch Diagram SequenceFrame
  bare_diagram = map-Diagram Node' Branch' Diagram' Frame' Node Branch Diagram SequenceFrame (λ p. p.0) (λ p. p.0) (λ p. p.0) (λ p. p.0)

  diagram_level : (y : Diagram-F Node' Branch' Diagram' Frame') → GoodDiagram (roll-Diagram (bare_diagram y))
  diagram_level y = subst Good (sym (lines-diagram (roll-Diagram (bare_diagram y)))) (all_good (map lines_of (map (λ p. p.0) y.nodes)) (nodes_good y.nodes))

  node_good : (n : Node) → IsGood n
  node_good = ind-Node IsGood GoodBranch GoodDiagram GoodFrame
      (λ x y is. subst (λ z. IsGood (roll-Node z)) is (level y))
      (λ x y is. subst (λ z. GoodBranch (roll-Branch z)) is (branch_level y))
      (λ x y is. subst (λ z. GoodDiagram (roll-Diagram z)) is (diagram_level y))
      (λ x y is. subst (λ z. GoodFrame (roll-SequenceFrame z)) is (frame_level y))

  -- ---- a VI

  every_good : (ns : List Node) → AllGood (map lines_of ns)
  every_good [] = tt
  every_good (n ∷ ns) = (node_good n, every_good ns)

  panel_laid : (items : List PanelItem) (line : ℕ) → Spans line (line + length items) (λ v. on (control_lines line items) v + entries_at (panel_entries items line) v)
      × Rises line (line + length items) (panel_entries items line)
  panel_laid [] line = (nowhere line (line + 0) (λ v. 0 + 0) (λ v. refl), omega arith)
  panel_laid (Control name t required default out ∷ items) line =
      let rest = panel_laid items (line + 1) in
      let more : ℕ → ℕ = λ v. on (control_lines (line + 1) items) v + entries_at (panel_entries items (line + 1)) v in
      let l : Line = control_line line out in (
        alike line (line + suc (length items)) (λ v. line_hit l.operands (l.line == v) + more v) (λ v. on (l ∷ control_lines (line + 1) items) v + entries_at (panel_entries items (line + 1)) v)
            (λ v. omega arith)
            (both line (line + 1) (line + suc (length items)) (λ v. line_hit l.operands (l.line == v)) more (omega arith) (omega arith) (line_spans l)
            (wider (line + 1) (line + 1) ((line + 1) + length items) (line + suc (length items)) more (omega arith) (omega arith) rest.0)),
        rises_wider (line + 1) line ((line + 1) + length items) (line + suc (length items)) (panel_entries items (line + 1)) (omega arith) (omega arith) rest.1,
      )
  panel_laid (Indicator name t None ∷ items) line =
      let rest = panel_laid items (line + 1) in (
        wider (line + 1) line ((line + 1) + length items) (line + suc (length items)) _ (omega arith) (omega arith) rest.0,
        rises_wider (line + 1) line ((line + 1) + length items) (line + suc (length items)) (panel_entries items (line + 1)) (omega arith) (omega arith) rest.1,
      )
  panel_laid (Indicator name t (Some w) ∷ items) line =
      let rest = panel_laid items (line + 1) in
      let more : ℕ → ℕ = λ v. on (control_lines (line + 1) items) v + entries_at (panel_entries items (line + 1)) v in
      let e : Entry = entry line 0 (kind.Shows name t (Some w)) in
      let l : Line = plain_line e (free_consumer Outside (Some w) ∷ []) in (
        alike line (line + suc (length items)) (λ v. line_hit l.operands (l.line == v) + more v) (λ v. on (control_lines (line + 1) items) v + entries_at (e ∷ panel_entries items (line + 1)) v)
            (λ v. omega arith)
            (both line (line + 1) (line + suc (length items)) (λ v. line_hit l.operands (l.line == v)) more (omega arith) (omega arith) (line_spans l)
            (wider (line + 1) (line + 1) ((line + 1) + length items) (line + suc (length items)) more (omega arith) (omega arith) rest.0)),
        (omega arith, rises_wider (line + 1) (suc line) ((line + 1) + length items) (line + suc (length items)) (panel_entries items (line + 1)) (omega arith) (omega arith) rest.1),
      )

  nodes_laid : (ns : List Node) (line z : ℕ) → Laid line (line + count_of (map lines_of ns)) (nodes_entries ns line z)
  nodes_laid ns line z = subst (Laid line (line + count_of (map lines_of ns))) (sym (in_turn ns line z)) (all_good (map lines_of ns) (every_good ns) line z)

  -- the nodes of a VI stand by line
  pub vi_rises : (vi : Vi) → Rises 1 ((1 + length vi.panel) + count_of (map lines_of vi.top.nodes)) (entries_of vi)
  vi_rises vi =
      let mid : ℕ = 1 + length vi.panel in
      let nodes = nodes_laid vi.top.nodes mid 0 in
      rises_both 1 mid (mid + count_of (map lines_of vi.top.nodes)) (panel_entries vi.panel 1) (nodes_entries vi.top.nodes mid 0) (panel_laid vi.panel 1).1 nodes.rises

  -- each line with operands has a number of its own
  pub lines_once : (vi : Vi) (v : ℕ) → lines_at v (control_lines 1 vi.panel ++ entries_lines free (entries_of vi)) ≤ 1
  lines_once vi v =
      let mid : ℕ = 1 + length vi.panel in
      let ns : List Entry = nodes_entries vi.top.nodes mid 0 in
      let nodes = nodes_laid vi.top.nodes mid 0 in
      let shown : ℕ → ℕ = λ u. on (control_lines 1 vi.panel) u + entries_at (panel_entries vi.panel 1) u in
      let all : Spans 1 (mid + count_of (map lines_of vi.top.nodes)) (λ u. shown u + entries_at ns u) =
      both 1 mid (mid + count_of (map lines_of vi.top.nodes)) shown (entries_at ns) (omega arith) (omega arith) (panel_laid vi.panel 1).0 nodes.lines in
      let x = all.once v in
      let y : on (control_lines 1 vi.panel ++ entries_lines free (entries_of vi)) v ≡ on (control_lines 1 vi.panel) v + entries_at (entries_of vi) v =
      at_both v (control_lines 1 vi.panel) (entries_lines free (entries_of vi)) in
      let z : entries_at (panel_entries vi.panel 1 ++ ns) v ≡ entries_at (panel_entries vi.panel 1) v + entries_at ns v = entries_both v (panel_entries vi.panel 1) ns in
      omega (arith, x, y, z)
