use Rattle.std.proofs.Common.{ℕ, ◌+◌, List, length, map, refl, ap, sym, ◌∙◌, arith}
use Rattle.g_diagram.specs.declared.node.Node.{Node}
use Rattle.g_diagram.specs.declared.node.Branch.{Branch}
use Rattle.g_diagram.specs.declared.node.SequenceFrame.{SequenceFrame}
use Rattle.g_diagram.specs.Lines.{Lines, lines_of, branch_lines, frame_lines, branch_count, frame_count, give_lines, entries_in, branches_entries, frames_entries}
use Rattle.g_diagram.specs.Sizes.{told}
use Rattle.g_diagram.proofs.NodeTotals.{one_more, all_counted, branch_body, frame_body}
use Rattle.g_diagram.proofs.node_count.+total.Goals as goal

pub branches_total-loop-branch-init : goal.branches_total-loop-branch-init
branches_total-loop-branch-init t c = λ line. record { line = line; kept = omega arith; is = omega arith }

pub branches_total-loop-branch-preserved : goal.branches_total-loop-branch-preserved
branches_total-loop-branch-preserved t c = λ line.
    let x : Branch = c.branch-item.result in
    one_more (λ (bs : List Branch) at. branches_entries at (map branch_lines bs)) (λ at. (branch_lines x).body.entries (at + 1 + give_lines (branch_lines x).gives) at) (λ at. at + branch_count (branch_lines x)) c.args.branches.now c.loop-branch.branch-index x
    c.loop-branch.total c.nodes_total.result c.add-total.result (length (branches_entries line (map branch_lines c.args.branches.now)))
    c.loop-branch-test.true c.branch-item.is c.add-total.ensures
    (λ at. c.nodes_total.ensures (at + 1 + give_lines (branch_lines x).gives) at ∙ ap (λ ns. told (length (entries_in (map lines_of ns) (at + 1 + give_lines (branch_lines x).gives) at))) c.as_slice.ensures
    ∙ ap (λ (ls : Lines). told (length (ls.entries (at + 1 + give_lines (branch_lines x).gives) at))) (sym (branch_body x)))
    (λ at. refl) (c.loop-branch.invariant line)

pub branches_total-returns : goal.branches_total-returns
branches_total-returns t c = λ line.
    all_counted (λ (bs : List Branch) at. branches_entries at (map branch_lines bs)) c.args.branches.now c.loop-branch.branch-index c.loop-branch.total (length (branches_entries line (map branch_lines c.args.branches.now)))
    (omega (arith, c.loop-branch-test.false)) (λ at. refl) (c.loop-branch.invariant line)

pub frames_total-loop-frame-init : goal.frames_total-loop-frame-init
frames_total-loop-frame-init t c = λ line. record { line = line; kept = omega arith; is = omega arith }

pub frames_total-loop-frame-preserved : goal.frames_total-loop-frame-preserved
frames_total-loop-frame-preserved t c = λ line.
    let x : SequenceFrame = c.frame-item.result in
    one_more (λ (fs : List SequenceFrame) at. frames_entries at (map frame_lines fs)) (λ at. (frame_lines x).body.entries (at + 2 + length (frame_lines x).lines) at) (λ at. at + frame_count (frame_lines x)) c.args.frames.now c.loop-frame.frame-index x
    c.loop-frame.total c.nodes_total.result c.add-total.result (length (frames_entries line (map frame_lines c.args.frames.now)))
    c.loop-frame-test.true c.frame-item.is c.add-total.ensures
    (λ at. c.nodes_total.ensures (at + 2 + length (frame_lines x).lines) at ∙ ap (λ ns. told (length (entries_in (map lines_of ns) (at + 2 + length (frame_lines x).lines) at))) c.as_slice.ensures
    ∙ ap (λ (ls : Lines). told (length (ls.entries (at + 2 + length (frame_lines x).lines) at))) (sym (frame_body x)))
    (λ at. refl) (c.loop-frame.invariant line)

pub frames_total-returns : goal.frames_total-returns
frames_total-returns t c = λ line.
    all_counted (λ (fs : List SequenceFrame) at. frames_entries at (map frame_lines fs)) c.args.frames.now c.loop-frame.frame-index c.loop-frame.total (length (frames_entries line (map frame_lines c.args.frames.now)))
    (omega (arith, c.loop-frame-test.false)) (λ at. refl) (c.loop-frame.invariant line)

pub nodes_total-loop-node-init : goal.nodes_total-loop-node-init
nodes_total-loop-node-init t c = λ line diagram. record { line = line; kept = omega arith; is = omega arith }

pub nodes_total-loop-node-preserved : goal.nodes_total-loop-node-preserved
nodes_total-loop-node-preserved t c = λ line diagram.
    let x : Node = c.node-item.result in
    one_more (λ (ns : List Node) at. entries_in (map lines_of ns) at diagram) (λ at. (lines_of x).entries at diagram) (λ at. at + (lines_of x).count) c.args.nodes.now c.loop-node.node-index x
    c.loop-node.total c.node_total.result c.add-total.result (length (entries_in (map lines_of c.args.nodes.now) line diagram))
    c.loop-node-test.true c.node-item.is c.add-total.ensures
    (λ at. c.node_total.ensures at diagram)
    (λ at. refl) (c.loop-node.invariant line diagram)

pub nodes_total-returns : goal.nodes_total-returns
nodes_total-returns t c = λ line diagram.
    all_counted (λ (ns : List Node) at. entries_in (map lines_of ns) at diagram) c.args.nodes.now c.loop-node.node-index c.loop-node.total (length (entries_in (map lines_of c.args.nodes.now) line diagram))
    (omega (arith, c.loop-node-test.false)) (λ at. refl) (c.loop-node.invariant line diagram)
