use Rattle.std.proofs.Common.{◌≡◌, ℕ, ◌+◌, length, take}
use Rattle.g_graph_order.specs.Order.{times, at}
use Rattle.g_graph_order.proofs.removal.count_row.Given as goal

abbrev pub invariant-loop-node : goal.invariant-loop-node
invariant-loop-node l = record {
  len : length l.counts.items ≡ length l.fn.counts.items;
  counts : (b : ℕ) → at l.counts.items b ≡ at l.fn.counts.items b + times (take l.node-index l.row) b;
}
