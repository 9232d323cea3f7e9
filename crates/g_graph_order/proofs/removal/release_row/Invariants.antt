use Rattle.std.proofs.Common.{◌≡◌, ℕ, ◌+◌, ◌≤◌, length, take}
use Rattle.std.specs.Prelude.{sum}
use Rattle.g_graph_order.specs.Order.{times, at, free}
use Rattle.g_graph_order.proofs.removal.release_row.Given as goal

abbrev pub invariant-loop-node : goal.invariant-loop-node
invariant-loop-node l = record {
  len : length l.counts.items ≡ length l.fn.counts.items;
  counts : (b : ℕ) → at l.counts.items b + times (take l.node-index l.row) b ≡ at l.fn.counts.items b;
  stack : (b : ℕ) → times l.stack.items b + free l.fn.counts.items b ≡ times l.fn.stack.items b + free l.counts.items b;
  total : sum l.counts.items + length l.stack.items ≤ sum l.fn.counts.items + length l.fn.stack.items;
}
