use Rattle.g_effects.proofs.KindLemmas.{plan_is}
use Rattle.g_effects.proofs.FitLemmas.{plan_fits}
use Rattle.g_effects.proofs.BeginLemmas.{begins_within}
use Rattle.g_effects.proofs.laws.plan_laws.Goals as goal

pub returns-clause-plans : goal.returns-clause-plans
returns-clause-plans c = plan_is

pub returns-clause-fits : goal.returns-clause-fits
returns-clause-fits c = plan_fits

pub returns-clause-room : goal.returns-clause-room
returns-clause-room c = begins_within
