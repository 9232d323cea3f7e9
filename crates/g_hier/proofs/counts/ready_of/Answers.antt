use Rattle.g_hier.proofs.SettlingEnds.{ready_more}
use Rattle.g_hier.proofs.counts.ready_of.Goals as goal

pub loop-vi-preserved : goal.loop-vi-preserved
loop-vi-preserved c = record {
  below = (ready_more c.args.waiting.now c.loop-vi.ready.items c.push_ready.new.ready.items c.loop-vi.vi c.loop-vi.invariant.below c.loop-vi.invariant.beyond c.in_ok-push_ready.ensures).0;
  beyond = (ready_more c.args.waiting.now c.loop-vi.ready.items c.push_ready.new.ready.items c.loop-vi.vi c.loop-vi.invariant.below c.loop-vi.invariant.beyond c.in_ok-push_ready.ensures).1;
}
