use Rattle.g_graph.proofs.EdgeLemmas.{rows_more, length_more, bare_next}
use Rattle.g_graph.proofs.edges.bare.Goals as goal

pub loop-node-preserved : goal.loop-node-preserved
loop-node-preserved c = record {
  len = length_more c.loop-node.graph.items c.push.new.self.items c.new.result c.loop-node._node c.in_ok-push.ensures.items c.loop-node.invariant.len;
  rows = rows_more c.args.count c.loop-node.graph.items c.push.new.self.items c.new.result c.new.ensures.items c.in_ok-push.ensures.items c.loop-node.invariant.rows;
  edges = bare_next c.loop-node.graph.items c.push.new.self.items c.new.result c.new.ensures.items c.in_ok-push.ensures.items c.loop-node.invariant.edges;
}
