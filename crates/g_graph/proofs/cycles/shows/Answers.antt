use Rattle.std.proofs.Common.{below_more, refl, arith}
use Rattle.g_graph.proofs.Falling.{all_shown}
use Rattle.g_graph.proofs.cycles.shows.Goals as goal

pub loop-node-preserved : goal.loop-node-preserved
loop-node-preserved c = below_more _ _ c.loop-node.invariant (c.if-not-node_shows.ensures refl)

pub returns : goal.returns
returns c = λ _. all_shown c.args.graph.now c.args.hints.now c.requires (λ v lt. c.loop-node.invariant v (omega arith))
