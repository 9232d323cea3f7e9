use Rattle.std.proofs.Common.{◌≡◌, ℕ, ◌+◌, length, take}
use Rattle.g_graph.specs.Graph.{has_edge, InRange}
use Rattle.g_hier.specs.CallGraph.{edges}
use Rattle.g_hier.proofs.graph.graph_of.Given as goal

abbrev pub invariant-loop-at : goal.invariant-loop-at
invariant-loop-at l = record {
  len : length l.graph.items ≡ l.count + length l.calls;
  in_range : InRange l.graph.items;
  edges : (a b : ℕ) → has_edge l.graph.items a b ≡ edges l.count (take l.at l.calls) a b;
}
