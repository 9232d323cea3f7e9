use Rattle.g_bodies.proofs.StepLemmas.{pushed}
use Rattle.g_bodies.proofs.steps.push_const.Goals as goal

pub returns-clause-fits : goal.returns-clause-fits
returns-clause-fits c = λ r fits. pushed r _ _ _ c.in_ok-push.ensures.items (λ n h. tt) fits
