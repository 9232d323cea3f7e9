use Rattle.std.proofs.Common.{◌≡◌, ℕ, ◌+◌, ◌<◌, [], length, drop}
use Rattle.g_graph_order.specs.Order.{at, waits, waits_from}
use Rattle.g_graph_order.proofs.removal.count_edges.Given as goal

abbrev pub invariant-loop-row : goal.invariant-loop-row
invariant-loop-row l = record {
  len : length l.counts.items ≡ length l.graph;
  counts : (b : ℕ) → b < length l.graph → at l.counts.items b + waits_from [] l.row-index (drop l.row-index l.graph) b ≡ waits [] l.graph b;
}
