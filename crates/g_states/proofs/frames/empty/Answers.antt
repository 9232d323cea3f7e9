use Rattle.std.proofs.Common.{◌≡◌, ◌∙◌}
use Rattle.g_states.proofs.GiveLemmas.{none_more}
use Rattle.g_states.proofs.frames.empty.Goals as goal

pub loop-source-preserved : goal.loop-source-preserved
loop-source-preserved c =
    none_more c.args.sources.now c.loop-source._source-index c.loop-source.values.items c.push.new.self.items c.loop-source-test.true c.in_ok-push.ensures.items
    ∙ c.loop-source.invariant
