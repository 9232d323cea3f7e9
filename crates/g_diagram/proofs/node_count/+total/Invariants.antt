use Rattle.std.proofs.Common.{ℕ, length, map, drop}
use Rattle.g_diagram.specs.Lines.{lines_of, branch_lines, frame_lines, entries_in, branches_entries, frames_entries}
use Rattle.g_diagram.proofs.NodeTotals.{Counted}
use Rattle.g_diagram.proofs.node_count.+total.Given as goal

abbrev pub invariant-nodes_total-loop-node : goal.invariant-nodes_total-loop-node
invariant-nodes_total-loop-node l =
    (line diagram : ℕ) → Counted l.total (λ at. entries_in (map lines_of (drop l.node-index l.nodes)) at diagram) (length (entries_in (map lines_of l.nodes) line diagram))

abbrev pub invariant-branches_total-loop-branch : goal.invariant-branches_total-loop-branch
invariant-branches_total-loop-branch l =
    (line : ℕ) → Counted l.total (λ at. branches_entries at (map branch_lines (drop l.branch-index l.branches))) (length (branches_entries line (map branch_lines l.branches)))

abbrev pub invariant-frames_total-loop-frame : goal.invariant-frames_total-loop-frame
invariant-frames_total-loop-frame l =
    (line : ℕ) → Counted l.total (λ at. frames_entries at (map frame_lines (drop l.frame-index l.frames))) (length (frames_entries line (map frame_lines l.frames)))
