use Rattle.g_values.proofs.ProperLemmas.{proper_num}
use Rattle.g_shared.proofs.reply.count.Goals as goal

pub returns-clause-proper : goal.returns-clause-proper
returns-clause-proper c = proper_num c.wrapped.result
