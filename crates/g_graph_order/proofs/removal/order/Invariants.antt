use Rattle.std.proofs.Common.{◌+◌, length}
use Rattle.std.specs.Prelude.{sum}
use Rattle.g_graph_order.proofs.Removing.{Removed}
use Rattle.g_graph_order.proofs.removal.order.Given as goal

abbrev pub invariant-loop-node : goal.invariant-loop-node
invariant-loop-node l = Removed l.graph l.counts.items l.stack.items l.nodes.items

abbrev pub decreases-loop-node : goal.decreases-loop-node
decreases-loop-node l = sum l.counts.items + length l.stack.items
