-- The constants of a node, at every depth, by its form.
use Rattle.std.proofs.Common.{◌≡◌, ℕ, ℤ, ◌+◌, List, [], ◌∷◌, map, length, sym, subst, ◌≤◌, arith}
use Rattle.std.specs.Prelude.{Some, None}
use Rattle.std.specs.List.{All}
use Rattle.std.proofs.lemmas.List.Elements.{All-nil, All-cons, All-head, All-tail, All-append}
use Rattle.g_types.specs.declared.ty.Ty.{Ty}
use Rattle.g_values.specs.declared.primitive.Primitive.{Primitive}
use Rattle.g_values.specs.Spelled.{IsSpelled}
use Rattle.g_diagram.specs.declared.panel.Lit.{Lit}
use Rattle.g_diagram.specs.declared.panel.PanelItem.{PanelItem}
use Rattle.g_diagram.specs.declared.panel.PanelItem.TheVariants.{Control, Indicator}
use Rattle.g_operations.specs.declared.shared.SharedOp.{SharedOp}
use Rattle.g_diagram.specs.declared.node.Tunnel.{Tunnel}
use Rattle.g_diagram.specs.declared.node.Branch.{Branch}
use Rattle.g_diagram.specs.declared.node.Diagram.{Diagram}
use Rattle.g_diagram.specs.declared.node.SequenceFrame.{SequenceFrame}
use Rattle.g_diagram.specs.declared.node.Node.{Node}
use Rattle.g_diagram.specs.declared.node.Node.TheVariants as node
use Rattle.g_diagram.specs.declared.hierarchy.Vi.{Vi}
use Rattle.g_diagram.specs.Lines.{Wire, Lines, Entry, Kind, Shows, entry, one_line, loop_lines, in_order, entries_in, give_lines, branch_count, branches_entries, arms, frame_count, frames_entries, parts, lines_of, nodes_entries, panel_entries, entries_of, BranchLines}
use Rattle.g_diagram.specs.Lines as kind
use Rattle.g_diagram.proofs.LineLemmas.{diagram_lines, branch_lines, frame_lines, case_lines, sequence_lines}
use Rattle.g_diagram.proofs.LineLemmas as by
use Rattle.g_listing_grammar.specs.Nodes.{results}
use Rattle.g_listing_laws.specs.Spelled.{IsQueueSize, IsLineSpelled, IsArmSpelled, IsKindSpelled}

abbrev IsEntrySpelled : Entry → Type 0
IsEntrySpelled e = IsKindSpelled e.kind

-- wherever the lines stand
abbrev Spelled : Lines → Type 0
Spelled l = (line d : ℕ) → All IsEntrySpelled (l.entries line d)

pub record IsNodeSpelled (n : Node) : Type 0 where
  pub lines : Spelled (lines_of n)

abbrev pub IsBodySpelled : Diagram → Type 0
IsBodySpelled body = All IsNodeSpelled body.nodes

-- a branch of a case with so many results
pub record IsBranchSpelled (results : ℕ) (b : Branch) : Type 0 where
  pub selectors : 1 ≤ length b.selectors
  pub gives : length b.gives ≡ results
  pub body : IsBodySpelled b.body

abbrev pub IsFrameSpelled : SequenceFrame → Type 0
IsFrameSpelled f = IsBodySpelled f.body

-- ---- bodies

in_order_spelled : (ns : List Node) → All IsNodeSpelled ns → Spelled (in_order (map lines_of ns))
in_order_spelled [] a line d = All-nil IsEntrySpelled
in_order_spelled (n ∷ ns) a line d =
    All-append IsEntrySpelled ((lines_of n).entries line d) (entries_in (map lines_of ns) (line + (lines_of n).count) d)
    ((All-head IsNodeSpelled n ns a).lines line d)
    (in_order_spelled ns (All-tail IsNodeSpelled n ns a) (line + (lines_of n).count) d)

body_spelled : (body : Diagram) → IsBodySpelled body → Spelled (diagram_lines body)
body_spelled body a = subst Spelled (sym (by.lines-diagram body)) (in_order_spelled body.nodes a)

branch_spelled : (n : ℕ) (b : Branch) → IsBranchSpelled n b → Spelled (branch_lines b).body
branch_spelled n b a = subst (λ l. Spelled l.body) (sym (by.lines-branch b)) (body_spelled b.body a.body)

frame_spelled : (f : SequenceFrame) → IsFrameSpelled f → Spelled (frame_lines f).body
frame_spelled f a = subst (λ l. Spelled l.body) (sym (by.lines-frame f)) (body_spelled f.body a)

branches_spelled : (n line : ℕ) (bs : List Branch) → All (IsBranchSpelled n) bs → All IsEntrySpelled (branches_entries line (map branch_lines bs))
branches_spelled n line [] a = All-nil IsEntrySpelled
branches_spelled n line (b ∷ bs) a =
    let l = branch_lines b in
    All-append IsEntrySpelled (l.body.entries (line + 1 + give_lines l.gives) line) (branches_entries (line + branch_count l) (map branch_lines bs))
    (branch_spelled n b (All-head (IsBranchSpelled n) b bs a) (line + 1 + give_lines l.gives) line)
    (branches_spelled n (line + branch_count l) bs (All-tail (IsBranchSpelled n) b bs a))

abbrev IsBranchLines : ℕ → BranchLines → Type 0
IsBranchLines n l = (1 ≤ length l.selectors) × (length l.gives ≡ n)

arms_spelled : (n line : ℕ) (bs : List Branch) → All (IsBranchSpelled n) bs → All (IsArmSpelled n) (arms line (map branch_lines bs))
arms_spelled n line [] a = All-nil (IsArmSpelled n)
arms_spelled n line (b ∷ bs) a =
    let l = branch_lines b in
    let is = All-head (IsBranchSpelled n) b bs a in
    let own : IsBranchLines n l = subst (IsBranchLines n) (sym (by.lines-branch b)) (is.selectors, is.gives) in
    All-cons (IsArmSpelled n) (record { selectors = l.selectors; gives = l.gives; body = line }) (arms (line + branch_count l) (map branch_lines bs)) own
    (arms_spelled n (line + branch_count l) bs (All-tail (IsBranchSpelled n) b bs a))

some_arms : (line : ℕ) (bs : List Branch) → 1 ≤ length bs → 1 ≤ length (arms line (map branch_lines bs))
some_arms line [] some = absurd (omega arith)
some_arms line (b ∷ bs) some = omega arith

some_parts : (line : ℕ) (fs : List SequenceFrame) → 1 ≤ length fs → 1 ≤ length (parts line (map frame_lines fs))
some_parts line [] some = absurd (omega arith)
some_parts line (f ∷ fs) some = omega arith

frames_spelled : (line : ℕ) (fs : List SequenceFrame) → All IsFrameSpelled fs → All IsEntrySpelled (frames_entries line (map frame_lines fs))
frames_spelled line [] a = All-nil IsEntrySpelled
frames_spelled line (f ∷ fs) a =
    let l = frame_lines f in
    All-append IsEntrySpelled (l.body.entries (line + 2 + length l.lines) line) (frames_entries (line + frame_count l) (map frame_lines fs))
    (frame_spelled f (All-head IsFrameSpelled f fs a) (line + 2 + length l.lines) line)
    (frames_spelled (line + frame_count l) fs (All-tail IsFrameSpelled f fs a))

-- ---- nodes

one_spelled : (k : Kind) → IsKindSpelled k → Spelled (one_line k)
one_spelled k is line d = All-cons IsEntrySpelled (entry line d k) [] is (All-nil IsEntrySpelled)

loop_spelled : (ts : List Tunnel) (body : Lines) (k : (body finish : ℕ) → Kind) → ((b f : ℕ) → IsKindSpelled (k b f)) → Spelled body → Spelled (loop_lines ts body k)
loop_spelled ts body k is inside line d =
    let start : ℕ = line + 1 + length ts in
    All-cons IsEntrySpelled (entry line d (k start (start + 1 + body.count))) (body.entries (start + 1) start) (is start (start + 1 + body.count)) (inside (start + 1) start)

by_lines : (n : Node) (l : Lines) → lines_of n ≡ l → Spelled l → IsNodeSpelled n
by_lines n l e s = record { lines = subst Spelled (sym e) s }

pub spelled-Const : (t : Ty) (l : Lit) (out : Wire) → IsSpelled t → IsNodeSpelled (node.Const t l out)
spelled-Const t l out is = by_lines (node.Const t l out) (one_line (kind.Const t l out)) (by.lines-Const t l out) (one_spelled (kind.Const t l out) is)

pub spelled-Apply : (op : Primitive) (inputs outputs : List Wire) → IsNodeSpelled (node.Apply op inputs outputs)
spelled-Apply op inputs outputs =
    by_lines (node.Apply op inputs outputs) (one_line (kind.Apply op inputs outputs)) (by.lines-Apply op inputs outputs) (one_spelled (kind.Apply op inputs outputs) tt)

pub spelled-Shared : (op : SharedOp) (inputs outputs : List Wire) → IsNodeSpelled (node.Shared op inputs outputs)
spelled-Shared op inputs outputs =
    by_lines (node.Shared op inputs outputs) (one_line (kind.Shared op inputs outputs)) (by.lines-Shared op inputs outputs) (one_spelled (kind.Shared op inputs outputs) tt)

pub spelled-Obtain : (queue : List ℕ) (size : ℤ) (item : Ty) (out : Wire) → IsQueueSize size → IsSpelled item → IsNodeSpelled (node.Obtain queue size item out)
spelled-Obtain queue size item out fits is =
    by_lines (node.Obtain queue size item out) (one_line (kind.Obtain queue size item out)) (by.lines-Obtain queue size item out) (one_spelled (kind.Obtain queue size item out) (fits, is))

pub spelled-Read : (object : List ℕ) (out : Wire) → IsNodeSpelled (node.Read object out)
spelled-Read object out = by_lines (node.Read object out) (one_line (kind.Read object out)) (by.lines-Read object out) (one_spelled (kind.Read object out) tt)

pub spelled-Write : (object : List ℕ) (input : Wire) → IsNodeSpelled (node.Write object input)
spelled-Write object input = by_lines (node.Write object input) (one_line (kind.Write object input)) (by.lines-Write object input) (one_spelled (kind.Write object input) tt)

pub spelled-Call : (vi : List ℕ) (inputs outputs : List Wire) → IsNodeSpelled (node.Call vi inputs outputs)
spelled-Call vi inputs outputs =
    by_lines (node.Call vi inputs outputs) (one_line (kind.Call vi inputs outputs)) (by.lines-Call vi inputs outputs) (one_spelled (kind.Call vi inputs outputs) tt)

pub spelled-For : (count iteration : Wire) (ts : List Tunnel) (body : Diagram) → All IsLineSpelled ts → IsBodySpelled body → IsNodeSpelled (node.For count iteration ts body)
spelled-For count iteration ts body all a =
    let k = λ (b finish : ℕ). kind.Loop (Some count) None iteration ts b in
    by_lines (node.For count iteration ts body) (loop_lines ts (diagram_lines body) k) (by.lines-For count iteration ts body)
    (loop_spelled ts (diagram_lines body) k (λ b f. all) (body_spelled body a))

pub spelled-While : (stop iteration : Wire) (ts : List Tunnel) (body : Diagram) → All IsLineSpelled ts → IsBodySpelled body → IsNodeSpelled (node.While stop iteration ts body)
spelled-While stop iteration ts body all a =
    let k = λ (b finish : ℕ). kind.Loop None (Some stop) iteration ts b in
    by_lines (node.While stop iteration ts body) (loop_lines ts (diagram_lines body) k) (by.lines-While stop iteration ts body)
    (loop_spelled ts (diagram_lines body) k (λ b f. all) (body_spelled body a))

pub spelled-InPlace : (ts : List Tunnel) (body : Diagram) → All IsLineSpelled ts → IsBodySpelled body → IsNodeSpelled (node.InPlace ts body)
spelled-InPlace ts body all a =
    by_lines (node.InPlace ts body) (loop_lines ts (diagram_lines body) (kind.InPlace ts)) (by.lines-InPlace ts body)
    (loop_spelled ts (diagram_lines body) (kind.InPlace ts) (λ b f. all) (body_spelled body a))

pub spelled-Case : (selector : Wire) (ts : List Tunnel) (bs : List Branch) → 1 ≤ length bs → All (IsBranchSpelled (results ts)) bs → IsNodeSpelled (node.Case selector ts bs)
spelled-Case selector ts bs some a =
    let ls = map branch_lines bs in
    by_lines (node.Case selector ts bs) (case_lines selector ts ls) (by.lines-Case selector ts bs)
    (λ line d.
    let start : ℕ = line + 1 + length ts in
    All-cons IsEntrySpelled (entry line d (kind.Case selector ts (arms start ls))) (branches_entries start ls)
    (some_arms start bs some, arms_spelled (results ts) start bs a) (branches_spelled (results ts) start bs a))

pub spelled-Sequence : (fs : List SequenceFrame) → 1 ≤ length fs → All IsFrameSpelled fs → IsNodeSpelled (node.Sequence fs)
spelled-Sequence fs some a =
    let ls = map frame_lines fs in
    by_lines (node.Sequence fs) (sequence_lines ls) (by.lines-Sequence fs)
    (λ line d. All-cons IsEntrySpelled (entry line d (kind.Sequence (parts (line + 1) ls))) (frames_entries (line + 1) ls) (some_parts (line + 1) fs some) (frames_spelled (line + 1) fs a))

-- ---- a VI

nodes_spelled : (ns : List Node) (line d : ℕ) → All IsNodeSpelled ns → All IsEntrySpelled (nodes_entries ns line d)
nodes_spelled [] line d a = All-nil IsEntrySpelled
nodes_spelled (n ∷ ns) line d a =
    All-append IsEntrySpelled ((lines_of n).entries line d) (nodes_entries ns (line + (lines_of n).count) d)
    ((All-head IsNodeSpelled n ns a).lines line d)
    (nodes_spelled ns (line + (lines_of n).count) d (All-tail IsNodeSpelled n ns a))

-- an indicator has no constant
panel_spelled : (items : List PanelItem) (line : ℕ) → All IsEntrySpelled (panel_entries items line)
panel_spelled [] line = All-nil IsEntrySpelled
panel_spelled (Indicator name t (Some w) ∷ items) line =
    All-cons IsEntrySpelled (entry line 0 (Shows name t (Some w))) (panel_entries items (line + 1)) tt (panel_spelled items (line + 1))
panel_spelled (Indicator name t None ∷ items) line = panel_spelled items (line + 1)
panel_spelled (Control name t required default out ∷ items) line = panel_spelled items (line + 1)

pub constants_spelled : (vi : Vi) → IsBodySpelled vi.top → All (λ e. IsKindSpelled e.kind) (entries_of vi)
constants_spelled vi a =
    let start : ℕ = 1 + length vi.panel in
    All-append IsEntrySpelled (panel_entries vi.panel 1) (nodes_entries vi.top.nodes start 0) (panel_spelled vi.panel 1) (nodes_spelled vi.top.nodes start 0 a)
