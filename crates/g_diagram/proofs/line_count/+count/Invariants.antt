use Rattle.std.proofs.Common.{◌≡◌, ◌+◌, map, drop}
use Rattle.g_diagram.specs.Lines.{lines_of, count_of, branches_count, frames_count}
use Rattle.g_diagram.specs.Lines.{branch_lines, frame_lines}
use Rattle.g_diagram.proofs.line_count.+count.Given as goal

abbrev pub invariant-branches_line_count-loop-branch : goal.invariant-branches_line_count-loop-branch
invariant-branches_line_count-loop-branch l = l.total + branches_count (map branch_lines (drop l.branch-index l.branches)) ≡ branches_count (map branch_lines l.branches)

abbrev pub invariant-frames_line_count-loop-frame : goal.invariant-frames_line_count-loop-frame
invariant-frames_line_count-loop-frame l = l.total + frames_count (map frame_lines (drop l.frame-index l.frames)) ≡ frames_count (map frame_lines l.frames)

abbrev pub invariant-nodes_line_count-loop-node : goal.invariant-nodes_line_count-loop-node
invariant-nodes_line_count-loop-node l = l.total + count_of (map lines_of (drop l.node-index l.nodes)) ≡ count_of (map lines_of l.nodes)
