use Rattle.std.proofs.Common.{◌≡◌, length}
use Rattle.g_graph.specs.Graph.{InRange}
use Rattle.g_tests_hierarchy.proofs.graphs.graph_of.Given as goal

abbrev pub invariant-loop-edge : goal.invariant-loop-edge
invariant-loop-edge l = record {
  len : length l.graph.items ≡ l.nodes;
  in_range : InRange l.graph.items;
}
