use Rattle.grun.proofs.Unique.{one_answer}
use Rattle.grun.proofs.laws.answer_laws.Goals as goal

pub returns : goal.returns
returns c = one_answer c.program_laws.ensures
