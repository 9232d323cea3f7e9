use Rattle.g_runs.proofs.StepLemmas.{lasts_here}
use Rattle.g_runs.proofs.whole.ended.Goals as goal

pub end_of-requires : goal.end_of-requires
end_of-requires c = let r = c.requires in (r.0, (r.1.0, lasts_here r.0 c.args.state r.1.1))
