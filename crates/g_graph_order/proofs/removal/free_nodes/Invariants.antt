use Rattle.std.proofs.Common.{◌≡◌, ℕ, ◌<◌, ◌≤◌}
use Rattle.g_graph_order.specs.Order.{times, free}
use Rattle.g_graph_order.proofs.removal.free_nodes.Given as goal

abbrev pub invariant-loop-node : goal.invariant-loop-node
invariant-loop-node l = record {
  seen : (b : ℕ) → b < l.node → times l.nodes.items b ≡ free l.counts b;
  later : (b : ℕ) → l.node ≤ b → times l.nodes.items b ≡ 0;
}
