use Rattle.g_graph.proofs.Telling.{tells_more}
use Rattle.g_graph.proofs.cycles.search_each.Goals as goal

pub loop-node-preserved : goal.loop-node-preserved
loop-node-preserved c = tells_more c.args.graph.now c.loop-node.node c.loop-node.marks.items c.push.new.self.items c.in_ok-turns_back.field-0 c.in_ok-push.ensures.items c.loop-node.invariant
    c.in_ok-turns_back.ensures.sound c.in_ok-turns_back.ensures.complete
