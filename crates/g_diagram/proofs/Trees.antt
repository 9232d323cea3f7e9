-- Diagrams as trees on which the table of lines computes, for worked examples. What is computed of a tree holds of the diagram that it
-- stands for.
use Rattle.std.proofs.Common.{Some, None, ◌≡◌, ℕ, ℤ, ◌+◌, List, [], ◌∷◌, ◌++◌, map, length, refl, ap, ◌∙◌}
use Rattle.g_types.specs.declared.ty.Ty.{Ty}
use Rattle.g_values.specs.declared.primitive.Primitive.{Primitive}
use Rattle.g_diagram.specs.declared.hierarchy.Clones.{Clones}
use Rattle.g_diagram.specs.declared.hierarchy.System.{System}
use Rattle.g_diagram.specs.declared.hierarchy.Vi.{Vi}
use Rattle.g_diagram.specs.declared.panel.Lit.{Lit}
use Rattle.g_diagram.specs.declared.panel.PanelItem.{PanelItem}
use Rattle.g_operations.specs.declared.shared.SharedOp.{SharedOp}
use Rattle.g_diagram.specs.declared.node.Selector.{Selector}
use Rattle.g_diagram.specs.declared.node.Tunnel.{Tunnel}
use Rattle.g_diagram.specs.declared.node.Node.{Node}
use Rattle.g_diagram.specs.declared.node.Branch.{Branch}
use Rattle.g_diagram.specs.declared.node.SequenceFrame.{SequenceFrame}
use Rattle.g_diagram.specs.declared.node.Node.TheVariants as node
use Rattle.g_diagram.specs.Lines.{Wire, Lines, BranchLines, FrameLines, Entry, lines_of, one_line, loop_lines, in_order, nodes_entries, entries_in, panel_entries, entries_of}
use Rattle.g_diagram.specs.Lines as kind
use Rattle.g_diagram.proofs.LineLemmas.{branch_lines, frame_lines, case_lines, sequence_lines}
use Rattle.g_diagram.proofs.LineLemmas as by

mutual
  pub data Tree : Type 0 where
    Const : Ty → Lit → Wire → Tree
    Apply : Primitive → (inputs outputs : List Wire) → Tree
    Shared : SharedOp → (inputs outputs : List Wire) → Tree
    Obtain : (queue : List ℕ) → (size : ℤ) → Ty → Wire → Tree
    Read : (object : List ℕ) → Wire → Tree
    Write : (object : List ℕ) → Wire → Tree
    Call : (vi : List ℕ) → (inputs outputs : List Wire) → Tree
    For : (count iteration : Wire) → List Tunnel → Trees → Tree
    While : (stop iteration : Wire) → List Tunnel → Trees → Tree
    Case : (selector : Wire) → List Tunnel → Choices → Tree
    Sequence : Frames → Tree
    InPlace : List Tunnel → Trees → Tree

  pub data Trees : Type 0 where
    none : Trees
    also : Tree → Trees → Trees

  pub data Choices : Type 0 where
    end : Choices
    when : List Selector → (gives : List Wire) → Trees → Choices → Choices

  pub data Frames : Type 0 where
    last : Frames
    frame : List Tunnel → Trees → Frames → Frames

-- what a tree stands for
abbrev mutual
  pub node_of : Tree → Node
  node_of (Const t l out) = node.Const t l out
  node_of (Apply op inputs outputs) = node.Apply op inputs outputs
  node_of (Shared op inputs outputs) = node.Shared op inputs outputs
  node_of (Obtain queue size item out) = node.Obtain queue size item out
  node_of (Read object out) = node.Read object out
  node_of (Write object input) = node.Write object input
  node_of (Call vi inputs outputs) = node.Call vi inputs outputs
  node_of (For count iteration lines body) = node.For count iteration lines (record { nodes = nodes_of body })
  node_of (While stop iteration lines body) = node.While stop iteration lines (record { nodes = nodes_of body })
  node_of (Case selector lines arms) = node.Case selector lines (branches_of arms)
  node_of (Sequence frames) = node.Sequence (frames_of frames)
  node_of (InPlace lines body) = node.InPlace lines (record { nodes = nodes_of body })

  pub nodes_of : Trees → List Node
  nodes_of none = []
  nodes_of (also t ts) = node_of t ∷ nodes_of ts

  pub branches_of : Choices → List Branch
  branches_of end = []
  branches_of (when ss gives body arms) = record { selectors = ss; gives = gives; body = record { nodes = nodes_of body } } ∷ branches_of arms

  pub frames_of : Frames → List SequenceFrame
  frames_of last = []
  frames_of (frame lines body frames) = record { lines = lines; body = record { nodes = nodes_of body } } ∷ frames_of frames

-- its lines
abbrev mutual
  pub tree_lines : Tree → Lines
  tree_lines (Const t l out) = one_line (kind.Const t l out)
  tree_lines (Apply op inputs outputs) = one_line (kind.Apply op inputs outputs)
  tree_lines (Shared op inputs outputs) = one_line (kind.Shared op inputs outputs)
  tree_lines (Obtain queue size item out) = one_line (kind.Obtain queue size item out)
  tree_lines (Read object out) = one_line (kind.Read object out)
  tree_lines (Write object input) = one_line (kind.Write object input)
  tree_lines (Call vi inputs outputs) = one_line (kind.Call vi inputs outputs)
  tree_lines (For count iteration lines body) = loop_lines lines (in_order (trees_lines body)) (λ first finish. kind.Loop (Some count) None iteration lines first)
  tree_lines (While stop iteration lines body) = loop_lines lines (in_order (trees_lines body)) (λ first finish. kind.Loop None (Some stop) iteration lines first)
  tree_lines (Case selector lines arms) = case_lines selector lines (choices_lines arms)
  tree_lines (Sequence frames) = sequence_lines (frames_lines frames)
  tree_lines (InPlace lines body) = loop_lines lines (in_order (trees_lines body)) (kind.InPlace lines)

  pub trees_lines : Trees → List Lines
  trees_lines none = []
  trees_lines (also t ts) = tree_lines t ∷ trees_lines ts

  pub choices_lines : Choices → List BranchLines
  choices_lines end = []
  choices_lines (when ss gives body arms) = record { selectors = ss; gives = gives; body = in_order (trees_lines body) } ∷ choices_lines arms

  pub frames_lines : Frames → List FrameLines
  frames_lines last = []
  frames_lines (frame lines body frames) = record { lines = lines; body = in_order (trees_lines body) } ∷ frames_lines frames

-- they are those of what it stands for
mutual
  pub same_lines : (t : Tree) → lines_of (node_of t) ≡ tree_lines t
  same_lines (Const t l out) = by.lines-Const t l out
  same_lines (Apply op inputs outputs) = by.lines-Apply op inputs outputs
  same_lines (Shared op inputs outputs) = by.lines-Shared op inputs outputs
  same_lines (Obtain queue size item out) = by.lines-Obtain queue size item out
  same_lines (Read object out) = by.lines-Read object out
  same_lines (Write object input) = by.lines-Write object input
  same_lines (Call vi inputs outputs) = by.lines-Call vi inputs outputs
  same_lines (For count iteration lines body) = by.lines-For count iteration lines (record { nodes = nodes_of body })
      ∙ ap (λ b. loop_lines lines b (λ first finish. kind.Loop (Some count) None iteration lines first)) (by.lines-diagram (record { nodes = nodes_of body }) ∙ ap in_order (all_same body))
  same_lines (While stop iteration lines body) = by.lines-While stop iteration lines (record { nodes = nodes_of body })
      ∙ ap (λ b. loop_lines lines b (λ first finish. kind.Loop None (Some stop) iteration lines first)) (by.lines-diagram (record { nodes = nodes_of body }) ∙ ap in_order (all_same body))
  same_lines (Case selector lines arms) = by.lines-Case selector lines (branches_of arms) ∙ ap (case_lines selector lines) (choices_same arms)
  same_lines (Sequence frames) = by.lines-Sequence (frames_of frames) ∙ ap sequence_lines (frames_same frames)
  same_lines (InPlace lines body) = by.lines-InPlace lines (record { nodes = nodes_of body })
      ∙ ap (λ b. loop_lines lines b (kind.InPlace lines)) (by.lines-diagram (record { nodes = nodes_of body }) ∙ ap in_order (all_same body))

  pub all_same : (ts : Trees) → map lines_of (nodes_of ts) ≡ trees_lines ts
  all_same none = refl
  all_same (also t ts) = ap (λ l. l ∷ map lines_of (nodes_of ts)) (same_lines t) ∙ ap (λ ls. tree_lines t ∷ ls) (all_same ts)

  pub choices_same : (arms : Choices) → map branch_lines (branches_of arms) ≡ choices_lines arms
  choices_same end = refl
  choices_same (when ss gives body arms) =
      ap (λ l. l ∷ map branch_lines (branches_of arms)) (by.lines-branch (record { selectors = ss; gives = gives; body = record { nodes = nodes_of body } })
      ∙ ap (λ b. record { selectors = ss; gives = gives; body = b }) (by.lines-diagram (record { nodes = nodes_of body }) ∙ ap in_order (all_same body)))
      ∙ ap (λ ls. record { selectors = ss; gives = gives; body = in_order (trees_lines body) } ∷ ls) (choices_same arms)

  pub frames_same : (frames : Frames) → map frame_lines (frames_of frames) ≡ frames_lines frames
  frames_same last = refl
  frames_same (frame lines body frames) =
      ap (λ l. l ∷ map frame_lines (frames_of frames)) (by.lines-frame (record { lines = lines; body = record { nodes = nodes_of body } })
      ∙ ap (λ b. record { lines = lines; body = b }) (by.lines-diagram (record { nodes = nodes_of body }) ∙ ap in_order (all_same body)))
      ∙ ap (λ ls. record { lines = lines; body = in_order (trees_lines body) } ∷ ls) (frames_same frames)

-- a VI whose diagram is given by trees
pub record Sketch : Type 0 where
  pub name : List ℕ
  pub clones : Clones
  pub system : System
  pub panel : List PanelItem
  pub top : Trees

abbrev pub vi_of : Sketch → Vi
vi_of s = record { name = s.name; clones = s.clones; system = s.system; panel = s.panel; top = record { nodes = nodes_of s.top } }

abbrev pub sketch_entries : Sketch → List Entry
sketch_entries s = panel_entries s.panel 1 ++ entries_in (trees_lines s.top) (1 + length s.panel) 0

pub same_entries : (s : Sketch) → entries_of (vi_of s) ≡ sketch_entries s
same_entries s =
    ap (λ es. panel_entries s.panel 1 ++ es) (by.in_turn (nodes_of s.top) (1 + length s.panel) 0 ∙ ap (λ ls. entries_in ls (1 + length s.panel) 0) (all_same s.top))
