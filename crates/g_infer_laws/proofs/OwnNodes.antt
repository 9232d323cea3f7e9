-- The structures in a node, at every depth, have lines of their own alone, by the node's form.
use Rattle.std.proofs.Common.{◌≡◌, ℕ, ◌+◌, Bool, true, false, List, [], ◌∷◌, map, length, refl, sym, subst}
use Rattle.std.proofs.lemmas.Bool.{and_from}
use Rattle.std.specs.Prelude.{Some, None, IsTrue}
use Rattle.std.specs.List.{All, list_all}
use Rattle.std.proofs.lemmas.List.Elements.{All-nil, All-cons, All-head, All-tail, All-append}
use Rattle.g_diagram.specs.declared.panel.PanelItem.{PanelItem}
use Rattle.g_diagram.specs.declared.panel.PanelItem.TheVariants.{Control, Indicator}
use Rattle.g_diagram.specs.declared.node.Tunnel.{Tunnel}
use Rattle.g_diagram.specs.declared.node.Branch.{Branch}
use Rattle.g_diagram.specs.declared.node.Diagram.{Diagram}
use Rattle.g_diagram.specs.declared.node.SequenceFrame.{SequenceFrame}
use Rattle.g_diagram.specs.declared.node.Node.{Node}
use Rattle.g_diagram.specs.declared.node.Node.TheVariants as node
use Rattle.g_diagram.specs.declared.hierarchy.Vi.{Vi}
use Rattle.g_diagram.specs.Lines.{Wire, Lines, FrameLines, Entry, Kind, Shows, entry, one_line, loop_lines, in_order, entries_in, give_lines, branch_count, branches_entries, arms, frame_count, frames_entries, parts, lines_of, nodes_entries, panel_entries, entries_of}
use Rattle.g_diagram.specs.Lines as kind
use Rattle.g_diagram.proofs.LineLemmas.{diagram_lines, branch_lines, frame_lines, case_lines, sequence_lines}
use Rattle.g_diagram.proofs.LineLemmas as by
use Rattle.g_infer_laws.specs.OwnLines.{is_loop_line, is_case_line, is_frame_line, is_place_line, have_frame_lines, has_own_lines, HasOwnLines}

abbrev IsOwn : Entry → Type 0
IsOwn e = IsTrue (has_own_lines e.kind)

-- wherever the lines stand
abbrev Own : Lines → Type 0
Own l = (line d : ℕ) → All IsOwn (l.entries line d)

pub record IsNodeOwn (n : Node) : Type 0 where
  pub lines : Own (lines_of n)

abbrev pub IsBodyOwn : Diagram → Type 0
IsBodyOwn body = All IsNodeOwn body.nodes

abbrev pub IsBranchOwn : Branch → Type 0
IsBranchOwn b = IsBodyOwn b.body

pub record IsFrameOwn (first : Bool) (f : SequenceFrame) : Type 0 where
  pub lines : list_all (is_frame_line first) f.lines ≡ true
  pub body : IsBodyOwn f.body

abbrev pub AreFramesOwn : (first : Bool) → List SequenceFrame → Type 0
AreFramesOwn first [] = Unit {0}
AreFramesOwn first (f ∷ fs) = IsFrameOwn first f × AreFramesOwn false fs

-- ---- bodies

in_order_own : (ns : List Node) → All IsNodeOwn ns → Own (in_order (map lines_of ns))
in_order_own [] a line d = All-nil IsOwn
in_order_own (n ∷ ns) a line d =
    All-append IsOwn ((lines_of n).entries line d) (entries_in (map lines_of ns) (line + (lines_of n).count) d)
    ((All-head IsNodeOwn n ns a).lines line d)
    (in_order_own ns (All-tail IsNodeOwn n ns a) (line + (lines_of n).count) d)

body_own : (body : Diagram) → IsBodyOwn body → Own (diagram_lines body)
body_own body a = subst Own (sym (by.lines-diagram body)) (in_order_own body.nodes a)

branches_own : (line : ℕ) (bs : List Branch) → All IsBranchOwn bs → All IsOwn (branches_entries line (map branch_lines bs))
branches_own line [] a = All-nil IsOwn
branches_own line (b ∷ bs) a =
    let l = branch_lines b in
    All-append IsOwn (l.body.entries (line + 1 + give_lines l.gives) line) (branches_entries (line + branch_count l) (map branch_lines bs))
    ((subst (λ l. Own l.body) (sym (by.lines-branch b)) (body_own b.body (All-head IsBranchOwn b bs a))) (line + 1 + give_lines l.gives) line)
    (branches_own (line + branch_count l) bs (All-tail IsBranchOwn b bs a))

frames_own : (first : Bool) (line : ℕ) (fs : List SequenceFrame) → AreFramesOwn first fs → All IsOwn (frames_entries line (map frame_lines fs))
frames_own first line [] a = All-nil IsOwn
frames_own first line (f ∷ fs) a =
    let l = frame_lines f in
    All-append IsOwn (l.body.entries (line + 2 + length l.lines) line) (frames_entries (line + frame_count l) (map frame_lines fs))
    ((subst (λ l. Own l.body) (sym (by.lines-frame f)) (body_own f.body a.0.body)) (line + 2 + length l.lines) line)
    (frames_own false (line + frame_count l) fs a.1)

parts_own : (first : Bool) (line : ℕ) (fs : List SequenceFrame) → AreFramesOwn first fs → have_frame_lines first (parts line (map frame_lines fs)) ≡ true
parts_own first line [] a = refl
parts_own first line (f ∷ fs) a =
    and_from (list_all (is_frame_line first) (frame_lines f).lines) (have_frame_lines false (parts (line + frame_count (frame_lines f)) (map frame_lines fs)))
    (subst (λ (l : FrameLines). list_all (is_frame_line first) l.lines ≡ true) (sym (by.lines-frame f)) a.0.lines)
    (parts_own false (line + frame_count (frame_lines f)) fs a.1)

-- ---- nodes

pub by_line : (n : Node) (k : Kind) → lines_of n ≡ one_line k → has_own_lines k ≡ true → IsNodeOwn n
by_line n k e is = record { lines = subst Own (sym e) (λ line d. All-cons IsOwn (entry line d k) [] is (All-nil IsOwn)) }

loop_own : (n : Node) (ts : List Tunnel) (body : Diagram) (k : (body finish : ℕ) → Kind) → lines_of n ≡ loop_lines ts (diagram_lines body) k
    → ((b f : ℕ) → has_own_lines (k b f) ≡ true) → IsBodyOwn body → IsNodeOwn n
loop_own n ts body k e is a = record {
  lines = subst Own (sym e) (λ line d.
      let start : ℕ = line + 1 + length ts in
      let inner = diagram_lines body in
      All-cons IsOwn (entry line d (k start (start + 1 + inner.count))) (inner.entries (start + 1) start) (is start (start + 1 + inner.count)) (body_own body a (start + 1) start));
}

pub own-For : (count iteration : Wire) (ts : List Tunnel) (body : Diagram) → list_all is_loop_line ts ≡ true → IsBodyOwn body → IsNodeOwn (node.For count iteration ts body)
own-For count iteration ts body own a =
    loop_own (node.For count iteration ts body) ts body (λ (b finish : ℕ). kind.Loop (Some count) None iteration ts b) (by.lines-For count iteration ts body) (λ b f. own) a

pub own-While : (stop iteration : Wire) (ts : List Tunnel) (body : Diagram) → list_all is_loop_line ts ≡ true → IsBodyOwn body → IsNodeOwn (node.While stop iteration ts body)
own-While stop iteration ts body own a =
    loop_own (node.While stop iteration ts body) ts body (λ (b finish : ℕ). kind.Loop None (Some stop) iteration ts b) (by.lines-While stop iteration ts body) (λ b f. own) a

pub own-InPlace : (ts : List Tunnel) (body : Diagram) → list_all is_place_line ts ≡ true → IsBodyOwn body → IsNodeOwn (node.InPlace ts body)
own-InPlace ts body own a = loop_own (node.InPlace ts body) ts body (kind.InPlace ts) (by.lines-InPlace ts body) (λ b f. own) a

pub own-Case : (selector : Wire) (ts : List Tunnel) (bs : List Branch) → list_all is_case_line ts ≡ true → All IsBranchOwn bs → IsNodeOwn (node.Case selector ts bs)
own-Case selector ts bs own a =
    let ls = map branch_lines bs in
    record {
      lines = subst Own (sym (by.lines-Case selector ts bs)) (λ line d.
          let start : ℕ = line + 1 + length ts in
          All-cons IsOwn (entry line d (kind.Case selector ts (arms start ls))) (branches_entries start ls) own (branches_own start bs a));
    }

pub own-Sequence : (fs : List SequenceFrame) → AreFramesOwn true fs → IsNodeOwn (node.Sequence fs)
own-Sequence fs a =
    let ls = map frame_lines fs in
    record {
      lines = subst Own (sym (by.lines-Sequence fs)) (λ line d.
          All-cons IsOwn (entry line d (kind.Sequence (parts (line + 1) ls))) (frames_entries (line + 1) ls) (parts_own true (line + 1) fs a) (frames_own true (line + 1) fs a));
    }

-- ---- a VI

nodes_own : (ns : List Node) (line d : ℕ) → All IsNodeOwn ns → All IsOwn (nodes_entries ns line d)
nodes_own [] line d a = All-nil IsOwn
nodes_own (n ∷ ns) line d a =
    All-append IsOwn ((lines_of n).entries line d) (nodes_entries ns (line + (lines_of n).count) d)
    ((All-head IsNodeOwn n ns a).lines line d)
    (nodes_own ns (line + (lines_of n).count) d (All-tail IsNodeOwn n ns a))

panel_own : (items : List PanelItem) (line : ℕ) → All IsOwn (panel_entries items line)
panel_own [] line = All-nil IsOwn
panel_own (Indicator name t (Some w) ∷ items) line = All-cons IsOwn (entry line 0 (Shows name t (Some w))) (panel_entries items (line + 1)) refl (panel_own items (line + 1))
panel_own (Indicator name t None ∷ items) line = panel_own items (line + 1)
panel_own (Control name t required default out ∷ items) line = panel_own items (line + 1)

pub vi_own : (vi : Vi) → IsBodyOwn vi.top → HasOwnLines vi
vi_own vi a =
    let start : ℕ = 1 + length vi.panel in
    All-append IsOwn (panel_entries vi.panel 1) (nodes_entries vi.top.nodes start 0) (panel_own vi.panel 1) (nodes_own vi.top.nodes start 0 a)
