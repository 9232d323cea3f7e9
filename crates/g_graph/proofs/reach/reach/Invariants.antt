use Rattle.std.proofs.Common.{◌≡◌, ◌+◌, length}
use Rattle.g_graph.specs.Graph.{has, has_edge, is_marked, unmarked}
use Rattle.g_graph.proofs.Search.{Found}
use Rattle.g_graph.proofs.reach.reach.Given as goal

abbrev pub invariant-loop-node : goal.invariant-loop-node
invariant-loop-node l = record {
  len : length l.marks.items ≡ length l.graph;
  found : Found (has_edge l.graph) l.fn.from (is_marked l.marks.items) (has l.stack.items);
}

abbrev pub decreases-loop-node : goal.decreases-loop-node
decreases-loop-node l = unmarked l.marks.items + length l.stack.items
