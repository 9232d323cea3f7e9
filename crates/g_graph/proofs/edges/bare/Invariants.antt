use Rattle.std.proofs.Common.{◌≡◌, ℕ, false, length}
use Rattle.std.specs.Prelude.{All}
use Rattle.g_graph.specs.Graph.{has_edge, RowInRange}
use Rattle.g_graph.proofs.edges.bare.Given as goal

abbrev pub invariant-loop-node : goal.invariant-loop-node
invariant-loop-node l = record {
  len : length l.graph.items ≡ l._node;
  rows : All (λ row. RowInRange l.count row.items) l.graph.items;
  edges : (a b : ℕ) → has_edge l.graph.items a b ≡ false;
}
