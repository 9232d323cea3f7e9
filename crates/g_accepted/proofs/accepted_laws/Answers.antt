use Rattle.g_accepted.proofs.Whole.{are_accepted}
use Rattle.g_accepted.proofs.accepted_laws.Goals as goal

pub returns : goal.returns
returns c = are_accepted
