use Rattle.g_program_laws.proofs.One.{programs_are_one}
use Rattle.g_program_laws.proofs.laws.program_laws.Goals as goal

pub returns : goal.returns
returns c = programs_are_one c.typable_laws.ensures.turns
