use Rattle.std.proofs.Common.{◌≡◌, ℕ, ◌+◌, ◌||◌, length, take}
use Rattle.g_graph.specs.Graph.{has, is_marked, is_fresh, unmarked}
use Rattle.g_graph.proofs.reach.visit.Given as goal

abbrev pub invariant-loop-node : goal.invariant-loop-node
invariant-loop-node l = record {
  len : length l.marks.items ≡ length l.fn.marks.items;
  marked : (b : ℕ) → is_marked l.marks.items b ≡ (is_marked l.fn.marks.items b || has (take l.node-index l.row) b);
  stacked : (b : ℕ) → has l.stack.items b ≡ (has l.fn.stack.items b || is_fresh l.fn.marks.items l.marks.items b);
  count : unmarked l.marks.items + length l.stack.items ≡ unmarked l.fn.marks.items + length l.fn.stack.items;
}
