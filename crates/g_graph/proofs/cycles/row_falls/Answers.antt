use Rattle.std.proofs.Common.{refl}
use Rattle.g_graph.proofs.Falling.{row_more}
use Rattle.g_graph.proofs.cycles.row_falls.Goals as goal

pub loop-to-preserved : goal.loop-to-preserved
loop-to-preserved c = row_more c.args.hints.now c.args.hint c.args.row.now c.loop-to.to-index c.in-Some.after c.loop-to.invariant c.loop-to-test.true c.in-Some.ensures (c.if-not-step_falls.ensures refl)
