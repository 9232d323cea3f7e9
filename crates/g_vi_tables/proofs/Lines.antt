-- The nodes of a VI stand by line.
use Rattle.std.proofs.Common.{ℕ, suc, ◌+◌, ◌≤◌, List, [], ◌∷◌, ◌++◌, map, length, sym, subst, arith, Some, None}
use Rattle.g_diagram.specs.declared.node.Tunnel.{Tunnel}
use Rattle.g_diagram.specs.declared.node.Node.{Node}
use Rattle.g_diagram.specs.declared.node.Branch.{Branch}
use Rattle.g_diagram.specs.declared.node.Diagram.{Diagram}
use Rattle.g_diagram.specs.declared.node.SequenceFrame.{SequenceFrame}
use Rattle.g_diagram.specs.declared.node.Node.TheViews.{roll-Node, roll-Branch, roll-Diagram, roll-SequenceFrame}
use Rattle.g_diagram.specs.declared.node.Node.TheOpen.{Node-F, Branch-F, Diagram-F, SequenceFrame-F}
use Rattle.g_diagram.specs.declared.node.Node.TheFolds.{ind-Node, map-Node, map-Branch, map-Diagram, map-SequenceFrame, fold-roll-Node}
use Rattle.g_diagram.specs.declared.panel.PanelItem.{PanelItem}
use Rattle.g_diagram.specs.declared.panel.PanelItem.TheVariants.{Control, Indicator}
use Rattle.g_diagram.specs.declared.hierarchy.Vi.{Vi}
use Rattle.g_diagram.specs.Lines.{Wire, Lines, BranchLines, FrameLines, Entry, Kind, one_line, loop_lines, in_order, count_of, entries_in, give_lines, branch_count, branches_count, branches_entries, frame_count, frames_count, frames_entries, lines_of, node_step, branch_step, diagram_step, frame_step, nodes_entries, panel_entries, entries_of}
use Rattle.g_diagram.specs.Lines as kind
use Rattle.g_diagram.proofs.LineLemmas.{diagram_lines, branch_lines, frame_lines, case_lines, sequence_lines, lines-diagram, lines-branch, lines-frame, in_turn}

-- from a line on and below another, each on a later line than the one before
abbrev pub Rises : (low high : ℕ) → List Entry → Type 0
Rises low high [] = low ≤ high
Rises low high (e ∷ es) = (low ≤ e.line) × Rises (suc e.line) high es

wider : (low lower high higher : ℕ) (es : List Entry) → lower ≤ low → high ≤ higher → Rises low high es → Rises lower higher es
wider low lower high higher [] l h r = omega (arith, l, h, r)
wider low lower high higher (e ∷ es) l h r = (let x = r.0 in omega (arith, l, x), wider (suc e.line) (suc e.line) high higher es (omega arith) h r.1)

joined : (low mid high : ℕ) (xs ys : List Entry) → Rises low mid xs → Rises mid high ys → Rises low high (xs ++ ys)
joined low mid high [] ys r s = wider mid low high high ys r (omega arith) s
joined low mid high (x ∷ xs) ys r s = (r.0, joined (suc x.line) mid high xs ys r.1 s)

abbrev Good : Lines → Type 0
Good ls = (line z : ℕ) → Rises line (line + ls.count) (ls.entries line z)

one_good : (kind : Kind) → Good (one_line kind)
one_good kind line z = (omega arith, omega arith)

abbrev AllGood : List Lines → Type 0
AllGood [] = Unit {0}
AllGood (n ∷ ns) = Good n × AllGood ns

all_good : (ns : List Lines) → AllGood ns → Good (in_order ns)
all_good [] h line z = omega arith
all_good (n ∷ ns) h line z =
    let mid : ℕ = line + n.count in
    joined line mid (line + (n.count + count_of ns)) (n.entries line z) (entries_in ns mid z) (h.0 line z)
    (wider mid mid (mid + count_of ns) (line + (n.count + count_of ns)) (entries_in ns mid z) (omega arith) (omega arith) (all_good ns h.1 mid z))

loop_good : (ts : List Tunnel) (body : Lines) (kind : (body finish : ℕ) → Kind) → Good body → Good (loop_lines ts body kind)
loop_good ts body kind good line z =
    let from : ℕ = line + 1 + length ts + 1 in
    (omega arith, wider from (suc line) (from + body.count) (line + (3 + length ts + body.count)) (body.entries from (line + 1 + length ts)) (omega arith) (omega arith) (good from (line + 1 + length ts)))

abbrev AllBranches : List BranchLines → Type 0
AllBranches [] = Unit {0}
AllBranches (b ∷ bs) = Good b.body × AllBranches bs

branches_rise : (line : ℕ) (bs : List BranchLines) → AllBranches bs → Rises line (line + branches_count bs) (branches_entries line bs)
branches_rise line [] h = omega arith
branches_rise line (b ∷ bs) h =
    let from : ℕ = line + 1 + give_lines b.gives in
    let mid : ℕ = line + branch_count b in
    let high : ℕ = line + (branch_count b + branches_count bs) in
    joined line mid high (b.body.entries from line) (branches_entries mid bs)
    (wider from line (from + b.body.count) mid (b.body.entries from line) (omega arith) (omega arith) (h.0 from line))
    (wider mid mid (mid + branches_count bs) high (branches_entries mid bs) (omega arith) (omega arith) (branches_rise mid bs h.1))

case_good : (selector : Wire) (ts : List Tunnel) (bs : List BranchLines) → AllBranches bs → Good (case_lines selector ts bs)
case_good selector ts bs h line z =
    let first : ℕ = line + 1 + length ts in
    (omega arith, wider first (suc line) (first + branches_count bs) (line + (2 + length ts + branches_count bs)) (branches_entries first bs) (omega arith) (omega arith) (branches_rise first bs h))

abbrev AllFrames : List FrameLines → Type 0
AllFrames [] = Unit {0}
AllFrames (f ∷ fs) = Good f.body × AllFrames fs

frames_rise : (line : ℕ) (fs : List FrameLines) → AllFrames fs → Rises line (line + frames_count fs) (frames_entries line fs)
frames_rise line [] h = omega arith
frames_rise line (f ∷ fs) h =
    let from : ℕ = line + 2 + length f.lines in
    let mid : ℕ = line + frame_count f in
    let high : ℕ = line + (frame_count f + frames_count fs) in
    joined line mid high (f.body.entries from line) (frames_entries mid fs)
    (wider from line (from + f.body.count) mid (f.body.entries from line) (omega arith) (omega arith) (h.0 from line))
    (wider mid mid (mid + frames_count fs) high (frames_entries mid fs) (omega arith) (omega arith) (frames_rise mid fs h.1))

sequence_good : (fs : List FrameLines) → AllFrames fs → Good (sequence_lines fs)
sequence_good fs h line z =
    (omega arith, wider (line + 1) (suc line) ((line + 1) + frames_count fs) (line + (2 + frames_count fs)) (frames_entries (line + 1) fs) (omega arith) (omega arith) (frames_rise (line + 1) fs h))

-- each node

abbrev IsGood : Node → Type 0
IsGood n = Good (lines_of n)

abbrev GoodDiagram : Diagram → Type 0
GoodDiagram x = Good (diagram_lines x)

abbrev GoodBranch : Branch → Type 0
GoodBranch b = Good (branch_lines b).body

abbrev GoodFrame : SequenceFrame → Type 0
GoodFrame f = Good (frame_lines f).body

abbrev Node' : Type 0
Node' = (n : Node) × IsGood n

abbrev Branch' : Type 0
Branch' = (b : Branch) × GoodBranch b

abbrev Diagram' : Type 0
Diagram' = (x : Diagram) × GoodDiagram x

abbrev Frame' : Type 0
Frame' = (f : SequenceFrame) × GoodFrame f

nodes_good : (ps : List Node') → AllGood (map lines_of (map (λ p. p.0) ps))
nodes_good [] = tt
nodes_good (p ∷ ps) = (p.1, nodes_good ps)

all_branches : (ps : List Branch') → AllBranches (map branch_lines (map (λ p. p.0) ps))
all_branches [] = tt
all_branches (p ∷ ps) = (p.1, all_branches ps)

all_frames : (ps : List Frame') → AllFrames (map frame_lines (map (λ p. p.0) ps))
all_frames [] = tt
all_frames (p ∷ ps) = (p.1, all_frames ps)

-- a node without what is said of its parts
abbrev bare : Node-F Node' Branch' Diagram' Frame' → Node-F Node Branch Diagram SequenceFrame
bare = map-Node Node' Branch' Diagram' Frame' Node Branch Diagram SequenceFrame (λ p. p.0) (λ p. p.0) (λ p. p.0) (λ p. p.0)

step_good : (y : Node-F Node' Branch' Diagram' Frame') → Good (node_step (map-Node Node Branch Diagram SequenceFrame Lines BranchLines Lines FrameLines lines_of branch_lines diagram_lines frame_lines (bare y)))
step_good (Node-F.Const t l out) = one_good (kind.Const t l out)
step_good (Node-F.Apply op inputs outputs) = one_good (kind.Apply op inputs outputs)
step_good (Node-F.Shared op inputs outputs) = one_good (kind.Shared op inputs outputs)
step_good (Node-F.Obtain queue size item out) = one_good (kind.Obtain queue size item out)
step_good (Node-F.Read object out) = one_good (kind.Read object out)
step_good (Node-F.Write object input) = one_good (kind.Write object input)
step_good (Node-F.Call vi inputs outputs) = one_good (kind.Call vi inputs outputs)
step_good (Node-F.For count iteration ts body) = loop_good ts (diagram_lines body.0) (λ first finish. kind.Loop (Some count) None iteration ts first) body.1
step_good (Node-F.While stop iteration ts body) = loop_good ts (diagram_lines body.0) (λ first finish. kind.Loop None (Some stop) iteration ts first) body.1
step_good (Node-F.InPlace ts body) = loop_good ts (diagram_lines body.0) (kind.InPlace ts) body.1
step_good (Node-F.Case selector ts branches) = case_good selector ts _ (all_branches branches)
step_good (Node-F.Sequence frames) = sequence_good _ (all_frames frames)

level : (y : Node-F Node' Branch' Diagram' Frame') → IsGood (roll-Node (bare y))
level y = subst Good (sym (fold-roll-Node Lines BranchLines Lines FrameLines node_step branch_step diagram_step frame_step (bare y))) (step_good y)

abbrev bare_branch : Branch-F Node' Branch' Diagram' Frame' → Branch-F Node Branch Diagram SequenceFrame
bare_branch = map-Branch Node' Branch' Diagram' Frame' Node Branch Diagram SequenceFrame (λ p. p.0) (λ p. p.0) (λ p. p.0) (λ p. p.0)

branch_level : (y : Branch-F Node' Branch' Diagram' Frame') → GoodBranch (roll-Branch (bare_branch y))
branch_level y = subst (λ (l : BranchLines). Good l.body) (sym (lines-branch (roll-Branch (bare_branch y)))) y.body.1

abbrev bare_frame : SequenceFrame-F Node' Branch' Diagram' Frame' → SequenceFrame-F Node Branch Diagram SequenceFrame
bare_frame = map-SequenceFrame Node' Branch' Diagram' Frame' Node Branch Diagram SequenceFrame (λ p. p.0) (λ p. p.0) (λ p. p.0) (λ p. p.0)

frame_level : (y : SequenceFrame-F Node' Branch' Diagram' Frame') → GoodFrame (roll-SequenceFrame (bare_frame y))
frame_level y = subst (λ (l : FrameLines). Good l.body) (sym (lines-frame (roll-SequenceFrame (bare_frame y)))) y.body.1

abbrev bare_diagram : Diagram-F Node' Branch' Diagram' Frame' → Diagram-F Node Branch Diagram SequenceFrame
bare_diagram = map-Diagram Node' Branch' Diagram' Frame' Node Branch Diagram SequenceFrame (λ p. p.0) (λ p. p.0) (λ p. p.0) (λ p. p.0)

diagram_level : (y : Diagram-F Node' Branch' Diagram' Frame') → GoodDiagram (roll-Diagram (bare_diagram y))
diagram_level y = subst Good (sym (lines-diagram (roll-Diagram (bare_diagram y)))) (all_good (map lines_of (map (λ p. p.0) y.nodes)) (nodes_good y.nodes))

node_good : (n : Node) → IsGood n
node_good = ind-Node IsGood GoodBranch GoodDiagram GoodFrame
    (λ x y is. subst (λ z. IsGood (roll-Node z)) is (level y))
    (λ x y is. subst (λ z. GoodBranch (roll-Branch z)) is (branch_level y))
    (λ x y is. subst (λ z. GoodDiagram (roll-Diagram z)) is (diagram_level y))
    (λ x y is. subst (λ z. GoodFrame (roll-SequenceFrame z)) is (frame_level y))

-- the nodes of a VI

every_good : (ns : List Node) → AllGood (map lines_of ns)
every_good [] = tt
every_good (n ∷ ns) = (node_good n, every_good ns)

panel_rises : (items : List PanelItem) (line : ℕ) → Rises line (line + length items) (panel_entries items line)
panel_rises [] line = omega arith
panel_rises (Indicator name t (Some w) ∷ items) line =
    (omega arith, wider (line + 1) (suc line) ((line + 1) + length items) (line + suc (length items)) (panel_entries items (line + 1)) (omega arith) (omega arith) (panel_rises items (line + 1)))
panel_rises (Indicator name t None ∷ items) line =
    wider (line + 1) line ((line + 1) + length items) (line + suc (length items)) (panel_entries items (line + 1)) (omega arith) (omega arith) (panel_rises items (line + 1))
panel_rises (Control name t required default out ∷ items) line =
    wider (line + 1) line ((line + 1) + length items) (line + suc (length items)) (panel_entries items (line + 1)) (omega arith) (omega arith) (panel_rises items (line + 1))

pub vi_rises : (vi : Vi) → Rises 1 ((1 + length vi.panel) + count_of (map lines_of vi.top.nodes)) (entries_of vi)
vi_rises vi =
    let mid : ℕ = 1 + length vi.panel in
    let high : ℕ = mid + count_of (map lines_of vi.top.nodes) in
    joined 1 mid high (panel_entries vi.panel 1) (nodes_entries vi.top.nodes mid 0) (panel_rises vi.panel 1)
    (subst (Rises mid high) (sym (in_turn vi.top.nodes mid 0)) (all_good (map lines_of vi.top.nodes) (every_good vi.top.nodes) mid 0))
