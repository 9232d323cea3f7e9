use Rattle.std.proofs.Common.{◌≡◌, ◌++◌, map, drop}
use Rattle.g_diagram.specs.Lines.{lines_of, entries_in, branches_entries, frames_entries}
use Rattle.g_diagram.proofs.LineLemmas.{branch_lines, frame_lines}
use Rattle.g_diagram_table.specs.Seen.{seen}
use Rattle.g_diagram_table.proofs.table.+walk.Given as goal

abbrev pub invariant-push_nodes-loop-node : goal.invariant-push_nodes-loop-node
invariant-push_nodes-loop-node l =
    map seen l.entries.items ++ entries_in (map lines_of (drop l.node-index l.nodes)) l.line l.diagram ≡ map seen l.fn.entries.items ++ entries_in (map lines_of l.nodes) l.first l.diagram

abbrev pub invariant-push_branches-loop-branch : goal.invariant-push_branches-loop-branch
invariant-push_branches-loop-branch l =
    map seen l.entries.items ++ branches_entries l.line (map branch_lines (drop l.branch-index l.branches)) ≡ map seen l.fn.entries.items ++ branches_entries l.first (map branch_lines l.branches)

abbrev pub invariant-push_frames-loop-frame : goal.invariant-push_frames-loop-frame
invariant-push_frames-loop-frame l =
    map seen l.entries.items ++ frames_entries l.line (map frame_lines (drop l.frame-index l.frames)) ≡ map seen l.fn.entries.items ++ frames_entries l.first (map frame_lines l.frames)
