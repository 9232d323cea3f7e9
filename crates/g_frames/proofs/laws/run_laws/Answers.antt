use Rattle.g_frames.proofs.RunLemmas.{composes, frames_stay, not_refused, allowed_not_refused}
use Rattle.g_frames.proofs.RestLemmas.{rest_tested, rest_refuses}
use Rattle.g_frames.proofs.LimitLemmas.{keeps_limit, spends_all}
use Rattle.g_frames.proofs.laws.run_laws.Goals as goal

pub returns-clause-composes : goal.returns-clause-composes
returns-clause-composes c = composes

pub returns-clause-frames : goal.returns-clause-frames
returns-clause-frames c = frames_stay

pub returns-clause-limit : goal.returns-clause-limit
returns-clause-limit c = λ p limit s is. keeps_limit p is.controls limit is.trace s is.after_it

pub returns-clause-refuses : goal.returns-clause-refuses
returns-clause-refuses c = λ p k xs s. (not_refused p k xs s, allowed_not_refused p k xs s)

pub returns-clause-rests : goal.returns-clause-rests
returns-clause-rests c = λ p s. (rest_refuses p s, rest_tested p s)

pub returns-clause-spent : goal.returns-clause-spent
returns-clause-spent c = λ p limit s is. spends_all p limit s (keeps_limit p is.controls limit is.trace s is.after_it)
