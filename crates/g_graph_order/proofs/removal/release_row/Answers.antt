use Rattle.std.proofs.Common.{arith}
use Rattle.g_graph_order.proofs.Removing.{some_left}
use Rattle.g_graph_order.proofs.removal.release_row.Goals as goal

pub release-requires-clause-waits : goal.release-requires-clause-waits
release-requires-clause-waits c = some_left c.args.row.now c.loop-node.counts.items c.args.counts.now.items c.loop-node.node-index (omega arith) c.requires.range c.requires.waits c.loop-node.invariant.counts
