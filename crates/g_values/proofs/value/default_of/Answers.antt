use Rattle.g_values.proofs.DefaultValues.{typed_answer, proper_answer}
use Rattle.g_values.proofs.value.default_of.Goals as goal

pub returns-clause-of_type : goal.returns-clause-of_type
returns-clause-of_type c = typed_answer c.args.ty.now c.default_value.result c.default_value.ensures

pub returns-clause-proper : goal.returns-clause-proper
returns-clause-proper c spelled = proper_answer c.args.ty.now c.default_value.result c.default_value.ensures spelled
