use Rattle.std.proofs.Common.{◌≡◌, length}
use Rattle.g_graph.specs.Graph.{InRange}
use Rattle.g_tests_hierarchy.proofs.graphs.ring.Given as goal

abbrev pub invariant-loop-node : goal.invariant-loop-node
invariant-loop-node l = record {
  len : length l.graph.items ≡ l.nodes;
  in_range : InRange l.graph.items;
}
