use Rattle.std.proofs.Common.{arith}
use Rattle.g_graph_order.proofs.Removing.{gathered, none_gathered, all_gathered}
use Rattle.g_graph_order.proofs.removal.free_nodes.Goals as goal

pub loop-node-preserved : goal.loop-node-preserved
loop-node-preserved c = record {
  seen = gathered c.loop-node.nodes.items c.push_free.new.nodes.items c.args.counts.now c.loop-node.node c.in_ok-push_free.ensures c.loop-node.invariant.seen c.loop-node.invariant.later;
  later = none_gathered c.loop-node.nodes.items c.push_free.new.nodes.items c.args.counts.now c.loop-node.node c.in_ok-push_free.ensures c.loop-node.invariant.later;
}

pub returns : goal.returns
returns c = all_gathered c.loop-node.nodes.items c.args.counts.now c.loop-node.node (omega arith) c.loop-node.invariant.seen c.loop-node.invariant.later
