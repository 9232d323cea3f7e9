use Rattle.g_rules_lines.proofs.QueueLemmas.{type_test}
use Rattle.g_rules_lines.proofs.queues.is_same.Goals as goal

pub returns : goal.returns
returns c = type_test c.same.result c.args.a.now c.args.b.now c.same.ensures.0 c.same.ensures.1
