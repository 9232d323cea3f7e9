-- The lines of a node, by its variants.
use Rattle.std.proofs.Common.{Some, None, ◌≡◌, ℕ, ℤ, ◌+◌, List, ◌∷◌, map, length, refl, ap, sym, ◌∙◌, [], ◌++◌}
use Rattle.g_types.specs.declared.ty.Ty.{Ty}
use Rattle.g_values.specs.declared.primitive.Primitive.{Primitive}
use Rattle.g_diagram.specs.declared.panel.Lit.{Lit}
use Rattle.g_operations.specs.declared.shared.SharedOp.{SharedOp}
use Rattle.g_diagram.specs.declared.node.Tunnel.{Tunnel}
use Rattle.g_diagram.specs.declared.node.Node.{Node}
use Rattle.g_diagram.specs.declared.node.Branch.{Branch}
use Rattle.g_diagram.specs.declared.node.Diagram.{Diagram}
use Rattle.g_diagram.specs.declared.node.SequenceFrame.{SequenceFrame}
use Rattle.g_diagram.specs.declared.node.Node.TheVariants as node
use Rattle.g_diagram.specs.declared.node.Node.TheOpen.{Node-F}
use Rattle.g_diagram.specs.declared.node.Node.TheFolds.{fold-Diagram, fold-Branch, fold-SequenceFrame, fold-roll-Node, fold_out-Diagram, fold_out-Branch, fold_out-SequenceFrame}
pub use Rattle.g_diagram.specs.Lines.{diagram_lines, branch_lines, frame_lines}
use Rattle.g_diagram.specs.Lines.{Wire, Lines, BranchLines, FrameLines, lines_of, node_step, branch_step, diagram_step, frame_step, one_line, loop_lines, in_order, entries_in, nodes_entries, branches_count, branches_entries, arms, frames_count, frames_entries, parts, entry, Const, Apply, Shared, Obtain, Read, Write, Call, Loop, Case, Sequence, InPlace}

pub lines-diagram : (d : Diagram) → diagram_lines d ≡ in_order (map lines_of d.nodes)
lines-diagram d = fold_out-Diagram Lines BranchLines Lines FrameLines node_step branch_step diagram_step frame_step d

pub lines-branch : (b : Branch) → branch_lines b ≡ record { selectors = b.selectors; gives = b.gives; body = diagram_lines b.body }
lines-branch b = fold_out-Branch Lines BranchLines Lines FrameLines node_step branch_step diagram_step frame_step b

pub lines-frame : (f : SequenceFrame) → frame_lines f ≡ record { lines = f.lines; body = diagram_lines f.body }
lines-frame f = fold_out-SequenceFrame Lines BranchLines Lines FrameLines node_step branch_step diagram_step frame_step f

abbrev pub case_lines : Wire → List Tunnel → List BranchLines → Lines
case_lines selector lines branches = record {
  count = 2 + length lines + branches_count branches;
  entries = λ line diagram.
      let first = line + 1 + length lines in
      entry line diagram (Case selector lines (arms first branches)) ∷ branches_entries first branches;
}

abbrev pub sequence_lines : List FrameLines → Lines
sequence_lines frames = record {
  count = 2 + frames_count frames;
  entries = λ line diagram. entry line diagram (Sequence (parts (line + 1) frames)) ∷ frames_entries (line + 1) frames;
}

pub lines-Const : (t : Ty) (l : Lit) (out : Wire) → lines_of (node.Const t l out) ≡ one_line (Const t l out)
lines-Const t l out =
    ap lines_of (sym (node.rolls-Const t l out)) ∙ fold-roll-Node Lines BranchLines Lines FrameLines node_step branch_step diagram_step frame_step (Node-F.Const t l out)

pub lines-Apply : (op : Primitive) (inputs outputs : List Wire) → lines_of (node.Apply op inputs outputs) ≡ one_line (Apply op inputs outputs)
lines-Apply op inputs outputs =
    ap lines_of (sym (node.rolls-Apply op inputs outputs)) ∙ fold-roll-Node Lines BranchLines Lines FrameLines node_step branch_step diagram_step frame_step (Node-F.Apply op inputs outputs)

pub lines-Shared : (op : SharedOp) (inputs outputs : List Wire) → lines_of (node.Shared op inputs outputs) ≡ one_line (Shared op inputs outputs)
lines-Shared op inputs outputs =
    ap lines_of (sym (node.rolls-Shared op inputs outputs)) ∙ fold-roll-Node Lines BranchLines Lines FrameLines node_step branch_step diagram_step frame_step (Node-F.Shared op inputs outputs)

pub lines-Obtain : (queue : List ℕ) (size : ℤ) (item : Ty) (out : Wire) → lines_of (node.Obtain queue size item out) ≡ one_line (Obtain queue size item out)
lines-Obtain queue size item out =
    ap lines_of (sym (node.rolls-Obtain queue size item out)) ∙ fold-roll-Node Lines BranchLines Lines FrameLines node_step branch_step diagram_step frame_step (Node-F.Obtain queue size item out)

pub lines-Read : (object : List ℕ) (out : Wire) → lines_of (node.Read object out) ≡ one_line (Read object out)
lines-Read object out =
    ap lines_of (sym (node.rolls-Read object out)) ∙ fold-roll-Node Lines BranchLines Lines FrameLines node_step branch_step diagram_step frame_step (Node-F.Read object out)

pub lines-Write : (object : List ℕ) (input : Wire) → lines_of (node.Write object input) ≡ one_line (Write object input)
lines-Write object input =
    ap lines_of (sym (node.rolls-Write object input)) ∙ fold-roll-Node Lines BranchLines Lines FrameLines node_step branch_step diagram_step frame_step (Node-F.Write object input)

pub lines-Call : (vi : List ℕ) (inputs outputs : List Wire) → lines_of (node.Call vi inputs outputs) ≡ one_line (Call vi inputs outputs)
lines-Call vi inputs outputs =
    ap lines_of (sym (node.rolls-Call vi inputs outputs)) ∙ fold-roll-Node Lines BranchLines Lines FrameLines node_step branch_step diagram_step frame_step (Node-F.Call vi inputs outputs)

pub lines-For : (count iteration : Wire) (lines : List Tunnel) (body : Diagram) → lines_of (node.For count iteration lines body) ≡ loop_lines lines (diagram_lines body) (λ first finish. Loop (Some count) None iteration lines first)
lines-For count iteration lines body =
    ap lines_of (sym (node.rolls-For count iteration lines body)) ∙ fold-roll-Node Lines BranchLines Lines FrameLines node_step branch_step diagram_step frame_step (Node-F.For count iteration lines body)

pub lines-While : (stop iteration : Wire) (lines : List Tunnel) (body : Diagram) → lines_of (node.While stop iteration lines body) ≡ loop_lines lines (diagram_lines body) (λ first finish. Loop None (Some stop) iteration lines first)
lines-While stop iteration lines body =
    ap lines_of (sym (node.rolls-While stop iteration lines body)) ∙ fold-roll-Node Lines BranchLines Lines FrameLines node_step branch_step diagram_step frame_step (Node-F.While stop iteration lines body)

pub lines-InPlace : (lines : List Tunnel) (body : Diagram) → lines_of (node.InPlace lines body) ≡ loop_lines lines (diagram_lines body) (InPlace lines)
lines-InPlace lines body =
    ap lines_of (sym (node.rolls-InPlace lines body)) ∙ fold-roll-Node Lines BranchLines Lines FrameLines node_step branch_step diagram_step frame_step (Node-F.InPlace lines body)

pub lines-Case : (selector : Wire) (lines : List Tunnel) (branches : List Branch) → lines_of (node.Case selector lines branches) ≡ case_lines selector lines (map branch_lines branches)
lines-Case selector lines branches =
    ap lines_of (sym (node.rolls-Case selector lines branches)) ∙ fold-roll-Node Lines BranchLines Lines FrameLines node_step branch_step diagram_step frame_step (Node-F.Case selector lines branches)

pub lines-Sequence : (frames : List SequenceFrame) → lines_of (node.Sequence frames) ≡ sequence_lines (map frame_lines frames)
lines-Sequence frames =
    ap lines_of (sym (node.rolls-Sequence frames)) ∙ fold-roll-Node Lines BranchLines Lines FrameLines node_step branch_step diagram_step frame_step (Node-F.Sequence frames)

-- nodes one after the other are their lines in order
pub in_turn : (ns : List Node) (line diagram : ℕ) → nodes_entries ns line diagram ≡ entries_in (map lines_of ns) line diagram
in_turn [] line diagram = refl
in_turn (n ∷ ns) line diagram = ap (λ es. (lines_of n).entries line diagram ++ es) (in_turn ns (line + (lines_of n).count) diagram)

pub ruleset lines_by_variant = (lines-Const, lines-Apply, lines-Shared, lines-Obtain, lines-Read, lines-Write, lines-Call, lines-For, lines-While, lines-InPlace, lines-Case, lines-Sequence, lines-diagram, lines-branch, lines-frame)
