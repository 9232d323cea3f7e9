use Rattle.g_bodies.specs.Known.{found}
use Rattle.g_bodies.proofs.FoundLemmas.{copied_more}
use Rattle.g_bodies.proofs.known.values_at.Goals as goal

pub loop-source-preserved : goal.loop-source-preserved
loop-source-preserved c =
    copied_more (found c.args.known.now) c.args.sources.now c.loop-source.values.items c.push_at.new.values.items c.loop-source.source-index _ c.loop-source-test.true c.in_ok-push_at.ensures c.loop-source.invariant
