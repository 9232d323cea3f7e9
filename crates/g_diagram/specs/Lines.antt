-- The nodes of a VI as one list, each with its line and the line of its diagram. Every definition on lines, wires, types and firings speaks
-- of this list, and none of them goes down the tree of diagrams.
-- The `vi` line of a VI is line 0, and its further lines count from there; a node's line is its first one. A diagram is named by a
-- line too: 0 for the VI's own, else the line of the `do`, `when` or `frame` before it.
use Rattle.std.specs.Prelude.{ℕ, ◌+◌, ◌==◌, List, [], ◌∷◌, ◌++◌, filter, length, Option, Some, None, ℤ}
use Rattle.g_types.specs.declared.ty.Ty.{Ty}
use Rattle.g_values.specs.declared.primitive.Primitive.{Primitive}
use Rattle.g_diagram.specs.declared.panel.Lit.{Lit}
use Rattle.g_diagram.specs.declared.panel.PanelItem.{PanelItem}
use Rattle.g_diagram.specs.declared.panel.PanelItem.TheVariants.{Indicator}
use Rattle.g_diagram.specs.declared.node.Selector.{Selector}
use Rattle.g_operations.specs.declared.shared.SharedOp.{SharedOp}
use Rattle.g_diagram.specs.declared.node.Tunnel.{Tunnel}
use Rattle.g_diagram.specs.declared.node.Node.{Node}
use Rattle.g_diagram.specs.declared.node.Branch.{Branch}
use Rattle.g_diagram.specs.declared.node.Diagram.{Diagram}
use Rattle.g_diagram.specs.declared.node.SequenceFrame.{SequenceFrame}
use Rattle.g_diagram.specs.declared.node.Node.TheOpen.{Node-F, Branch-F, Diagram-F, SequenceFrame-F}
use Rattle.g_diagram.specs.declared.node.Node.TheFolds.{fold-Node, fold-Diagram, fold-Branch, fold-SequenceFrame}
use Rattle.g_diagram.specs.declared.hierarchy.Vi.{Vi}

-- the name at an operand, or none where `_` leaves it unwired
abbrev pub Wire : Type 0
Wire = Option (List ℕ)

-- a branch of a case, with the line of its diagram
pub record Arm : Type 0 where
  pub selectors : List Selector
  pub gives : List Wire
  pub body : ℕ

-- a frame of a sequence, with the line of its diagram
pub record Part : Type 0 where
  pub lines : List Tunnel
  pub body : ℕ

-- what a node is: its form of line with its parts in order. A diagram inside is named by its line
pub data Kind : Type 0 where
  Const : Ty → Lit → (out : Wire) → Kind
  Apply : Primitive → (inputs outputs : List Wire) → Kind
  -- an indicator with the wire that it shows
  Shows : (name : List ℕ) → Ty → Wire → Kind
  Shared : SharedOp → (inputs outputs : List Wire) → Kind
  Obtain : (queue : List ℕ) → (size : ℤ) → Ty → (out : Wire) → Kind
  Read : (object : List ℕ) → (out : Wire) → Kind
  Write : (object : List ℕ) → (input : Wire) → Kind
  Call : (vi : List ℕ) → (inputs outputs : List Wire) → Kind
  -- a `for` or `while`: the operand that counts its iterations and the one that stops it, where its form has them
  Loop : (count stop : Option Wire) → (iteration : Wire) → List Tunnel → (body : ℕ) → Kind
  Case : (selector : Wire) → List Tunnel → List Arm → Kind
  Sequence : List Part → Kind
  -- with the line of its `end` too
  InPlace : List Tunnel → (body finish : ℕ) → Kind

pub record Entry : Type 0 where
  pub line : ℕ
  pub diagram : ℕ
  pub kind : Kind

abbrev pub entry : (line diagram : ℕ) → Kind → Entry
entry line diagram kind = record { line = line; diagram = diagram; kind = kind }

-- what some lines are: how many, and the nodes on them, from the line on which they begin in a diagram
pub record Lines : Type 0 where
  pub count : ℕ
  pub entries : (line diagram : ℕ) → List Entry

-- a branch and a frame with the lines of their bodies
pub record BranchLines : Type 0 where
  pub selectors : List Selector
  pub gives : List Wire
  pub body : Lines

pub record FrameLines : Type 0 where
  pub lines : List Tunnel
  pub body : Lines

abbrev pub one_line : Kind → Lines
one_line kind = record { count = 1; entries = λ line diagram. entry line diagram kind ∷ [] }

-- one after the other
abbrev pub count_of : List Lines → ℕ
count_of [] = 0
count_of (n ∷ ns) = n.count + count_of ns

abbrev pub entries_in : List Lines → (line diagram : ℕ) → List Entry
entries_in [] line diagram = []
entries_in (n ∷ ns) line diagram = n.entries line diagram ++ entries_in ns (line + n.count) diagram

abbrev pub in_order : List Lines → Lines
in_order ns = record { count = count_of ns; entries = entries_in ns }

-- a `give` line stands where there is something to give
abbrev pub give_lines : List Wire → ℕ
give_lines [] = 0
give_lines (w ∷ ws) = 1

abbrev pub branch_count : BranchLines → ℕ
branch_count b = 1 + give_lines b.gives + b.body.count

abbrev pub branches_count : List BranchLines → ℕ
branches_count [] = 0
branches_count (b ∷ bs) = branch_count b + branches_count bs

-- the branches, from the line of the first `when`
abbrev pub arms : (line : ℕ) → List BranchLines → List Arm
arms line [] = []
arms line (b ∷ bs) = record { selectors = b.selectors; gives = b.gives; body = line } ∷ arms (line + branch_count b) bs

abbrev pub branches_entries : (line : ℕ) → List BranchLines → List Entry
branches_entries line [] = []
branches_entries line (b ∷ bs) = b.body.entries (line + 1 + give_lines b.gives) line ++ branches_entries (line + branch_count b) bs

-- `frame`, its lines, `do` and the body
abbrev pub frame_count : FrameLines → ℕ
frame_count f = 2 + length f.lines + f.body.count

abbrev pub frames_count : List FrameLines → ℕ
frames_count [] = 0
frames_count (f ∷ fs) = frame_count f + frames_count fs

-- the frames of a sequence, from the line of the first `frame`
abbrev pub parts : (line : ℕ) → List FrameLines → List Part
parts line [] = []
parts line (f ∷ fs) = record { lines = f.lines; body = line } ∷ parts (line + frame_count f) fs

abbrev pub frames_entries : (line : ℕ) → List FrameLines → List Entry
frames_entries line [] = []
frames_entries line (f ∷ fs) = f.body.entries (line + 2 + length f.lines) line ++ frames_entries (line + frame_count f) fs

-- a header, its lines, `do`, a body and `end`
abbrev pub loop_lines : List Tunnel → Lines → ((body finish : ℕ) → Kind) → Lines
loop_lines lines body kind = record {
  count = 3 + length lines + body.count;
  entries = λ line diagram.
      let first = line + 1 + length lines in
      entry line diagram (kind first (first + 1 + body.count)) ∷ body.entries (first + 1) first;
}

abbrev pub node_step : Node-F Lines BranchLines Lines FrameLines → Lines
node_step (Node-F.Const t literal out) = one_line (Const t literal out)
node_step (Node-F.Apply op inputs outputs) = one_line (Apply op inputs outputs)
node_step (Node-F.Shared op inputs outputs) = one_line (Shared op inputs outputs)
node_step (Node-F.Obtain queue size item out) = one_line (Obtain queue size item out)
node_step (Node-F.Read object out) = one_line (Read object out)
node_step (Node-F.Write object input) = one_line (Write object input)
node_step (Node-F.Call vi inputs outputs) = one_line (Call vi inputs outputs)
node_step (Node-F.For count iteration lines body) = loop_lines lines body (λ first finish. Loop (Some count) None iteration lines first)
node_step (Node-F.While stop iteration lines body) = loop_lines lines body (λ first finish. Loop None (Some stop) iteration lines first)
node_step (Node-F.InPlace lines body) = loop_lines lines body (InPlace lines)
node_step (Node-F.Case selector lines branches) = record {
  count = 2 + length lines + branches_count branches;
  entries = λ line diagram.
      let first = line + 1 + length lines in
      entry line diagram (Case selector lines (arms first branches)) ∷ branches_entries first branches;
}
node_step (Node-F.Sequence frames) = record {
  count = 2 + frames_count frames;
  entries = λ line diagram. entry line diagram (Sequence (parts (line + 1) frames)) ∷ frames_entries (line + 1) frames;
}

abbrev pub branch_step : Branch-F Lines BranchLines Lines FrameLines → BranchLines
branch_step b = record { selectors = b.selectors; gives = b.gives; body = b.body }

abbrev pub diagram_step : Diagram-F Lines BranchLines Lines FrameLines → Lines
diagram_step d = in_order d.nodes

abbrev pub frame_step : SequenceFrame-F Lines BranchLines Lines FrameLines → FrameLines
frame_step f = record { lines = f.lines; body = f.body }

-- the lines of a node and of all that stands inside it
abbrev pub lines_of : Node → Lines
lines_of = fold-Node Lines BranchLines Lines FrameLines node_step branch_step diagram_step frame_step

-- the lines of a diagram, of a branch and of a frame
abbrev pub diagram_lines : Diagram → Lines
diagram_lines = fold-Diagram Lines BranchLines Lines FrameLines node_step branch_step diagram_step frame_step

abbrev pub branch_lines : Branch → BranchLines
branch_lines = fold-Branch Lines BranchLines Lines FrameLines node_step branch_step diagram_step frame_step

abbrev pub frame_lines : SequenceFrame → FrameLines
frame_lines = fold-SequenceFrame Lines BranchLines Lines FrameLines node_step branch_step diagram_step frame_step

-- nodes one after the other, from a line on
abbrev pub nodes_entries : List Node → (line diagram : ℕ) → List Entry
nodes_entries [] line diagram = []
nodes_entries (n ∷ ns) line diagram = (lines_of n).entries line diagram ++ nodes_entries ns (line + (lines_of n).count) diagram

-- a wired indicator is a node of the VI's own diagram, at its panel line
abbrev pub panel_entries : List PanelItem → (line : ℕ) → List Entry
panel_entries [] line = []
panel_entries (Indicator name t (Some w) ∷ items) line = entry line 0 (Shows name t (Some w)) ∷ panel_entries items (line + 1)
panel_entries (_ ∷ items) line = panel_entries items (line + 1)

-- all nodes of a VI, by line
abbrev pub entries_of : Vi → List Entry
entries_of vi = panel_entries vi.panel 1 ++ nodes_entries vi.top.nodes (1 + length vi.panel) 0

-- the nodes of one diagram
abbrev pub nodes_of : (diagram : ℕ) → List Entry → List Entry
nodes_of diagram es = filter (λ e. e.diagram == diagram) es
