use Rattle.std.proofs.Common.{◌∙◌}
use Rattle.g_program.proofs.NumberLemmas.{space-place}
use Rattle.g_program.proofs.table.ProgramTables.space_number.Goals as goal

pub returns : goal.returns
returns c = λ p are. c.get.ensures p.spaces are.space_numbers_are ∙ space-place c.args.space p.spaces
