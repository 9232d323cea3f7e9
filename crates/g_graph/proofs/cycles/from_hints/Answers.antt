use Rattle.std.proofs.Common.{sym, ◌∙◌}
use Rattle.g_graph.proofs.Telling.{tells_more, on_tells, on_turns}
use Rattle.g_graph.proofs.cycles.from_hints.Goals as goal

pub loop-node-preserved : goal.loop-node-preserved
loop-node-preserved c = tells_more c.args.graph.now c.loop-node.node c.loop-node.marks.items c.push.new.self.items c.is_on_at.result c.in_ok-push.ensures.items c.loop-node.invariant
    (λ e. on_turns c.args.graph.now c.args.hints.now c.requires c.loop-node.node (c.is_on_at.ensures ∙ e))
    (λ l. sym c.is_on_at.ensures ∙ on_tells c.args.graph.now c.args.hints.now c.requires c.loop-node.node l)
