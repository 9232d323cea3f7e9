-- What has at most so many levels has at most one more.
use Rattle.std.proofs.Common.{ℕ, zero, suc, List, [], ◌∷◌, get_or}
use Rattle.g_diagram.specs.declared.panel.Lit.{Lit}
use Rattle.g_diagram.specs.declared.panel.Lit.TheOpen.{Lit-F}
use Rattle.g_diagram.specs.declared.panel.Lit.TheViews.{out-Lit}
use Rattle.g_diagram.specs.declared.node.Branch.{Branch}
use Rattle.g_diagram.specs.declared.node.Diagram.{Diagram}
use Rattle.g_diagram.specs.declared.node.SequenceFrame.{SequenceFrame}
use Rattle.g_diagram.specs.declared.node.Node.{Node}
use Rattle.g_diagram.specs.declared.node.Node.TheOpen.{Node-F}
use Rattle.g_diagram.specs.declared.node.Node.TheViews.{out-Node}
use Rattle.g_listing_grammar.specs.declared.Border.{Border}
use Rattle.g_listing_grammar.specs.declared.Border.TheVariants as border
use Rattle.g_listing_grammar.specs.Nodes.{results}
use Rattle.g_listing_listable.specs.Listable.{IsLiteralAt, IsLiteral, IsBranch, IsFrame, AreFrames, IsNodeAt, HasNodes, Nowhere, IsNode, DeeperLiterals, DeeperNodes}

literal_at : (n : ℕ) → ((l : Lit) → IsLiteral n l → IsLiteral (suc n) l) → (x : Lit-F Lit) → IsLiteralAt (IsLiteral n) x → IsLiteralAt (IsLiteral (suc n)) x
literal_at n more (Lit-F.Array items) is = λ k d lt. (more (get_or items k d) (is k d lt).0, (is k d lt).1)
literal_at n more (Lit-F.Cluster items) is = (is.0, is.1, λ k d lt. more (get_or items k d) (is.2 k d lt))
literal_at n more x is = is

pub deeper_literals : DeeperLiterals
unfolding IsLiteral
deeper_literals zero l is = absurd is
deeper_literals (suc n) l is = literal_at n (deeper_literals n) (out-Lit l) is

module _ (P Q : Diagram → Type 0) (wider : (d : Diagram) → P d → Q d) where
  branch_wider : (n : ℕ) (b : Branch) → IsBranch P n b → IsBranch Q n b
  branch_wider n b is = record { some = is.some; selectors = is.selectors; count = is.count; gives = is.gives; body = wider b.body is.body }

  frame_wider : (b : Border) (f : SequenceFrame) → IsFrame P b f → IsFrame Q b f
  frame_wider b f is = record { lines = is.lines; body = wider f.body is.body }

  frames_wider : (fs : List SequenceFrame) → AreFrames P fs → AreFrames Q fs
  frames_wider [] is = absurd is
  frames_wider (f ∷ fs) is = (frame_wider border.FirstFrame f is.0, λ k d lt. frame_wider border.Frame (get_or fs k d) (is.1 k d lt))

  node_wider : (y : Node-F Node Branch Diagram SequenceFrame) → IsNodeAt P y → IsNodeAt Q y
  node_wider (Node-F.For a b ls body) is = (is.0, is.1, is.2, wider body is.3)
  node_wider (Node-F.While a b ls body) is = (is.0, is.1, is.2, wider body is.3)
  node_wider (Node-F.Case w ls bs) is = (is.0, is.1, is.2, λ k d lt. branch_wider (results ls) (get_or bs k d) (is.3 k d lt))
  node_wider (Node-F.Sequence fs) is = frames_wider fs is
  node_wider (Node-F.InPlace ls body) is = (is.0, wider body is.1)
  node_wider y is = is

pub deeper_nodes : DeeperNodes
unfolding IsNode
deeper_nodes zero x is = node_wider Nowhere (HasNodes (IsNode zero)) (λ d none. absurd none) (out-Node x) is
deeper_nodes (suc n) x is = node_wider (HasNodes (IsNode n)) (HasNodes (IsNode (suc n))) (λ d all k e lt. deeper_nodes n (get_or d.nodes k e) (all k e lt)) (out-Node x) is
