use Rattle.std.proofs.Common.{◌≡◌, ◌++◌, ℕ, List, drop, map}
use Rattle.g_diagram.specs.Text as spec
use Rattle.g_print.proofs.nodes.+diagram.Given as goal

abbrev pub invariant-write_diagram-loop-node : goal.invariant-write_diagram-loop-node
invariant-write_diagram-loop-node l = (rest : List ℕ) → l.page ++ spec.blocks (map spec.node (drop l.node-index l.nodes)) l.depth rest ≡ l.fn.page ++ spec.diagram l.fn.diagram l.depth rest

abbrev pub invariant-write_branches-loop-branch : goal.invariant-write_branches-loop-branch
invariant-write_branches-loop-branch l = (rest : List ℕ) → l.page ++ spec.blocks (map spec.branch (drop l.branch-index l.branches)) l.depth rest ≡ l.fn.page ++ spec.blocks (map spec.branch l.branches) l.depth rest

abbrev pub invariant-write_frames-loop-frame : goal.invariant-write_frames-loop-frame
invariant-write_frames-loop-frame l = (rest : List ℕ) → l.page ++ spec.blocks (map spec.frame (drop l.frame-index l.frames)) l.depth rest ≡ l.fn.page ++ spec.blocks (map spec.frame l.frames) l.depth rest
