use Rattle.g_rules_breaks.proofs.Ordered.{break_more}
use Rattle.g_rules_breaks.proofs.order.break_set.Goals as goal

pub loop-item-preserved : goal.loop-item-preserved
loop-item-preserved c = break_more c.args.breaks.now c.loop-item.item-index _ c.loop-item.set c.insert.new.self c.loop-item-test.true c.in_ok-_is_new.ensures.updates c.loop-item.invariant
