use Rattle.std.proofs.Common.{map, ◌∙◌}
use Rattle.g_program.proofs.NumberLemmas.{vi-place}
use Rattle.g_program.proofs.table.ProgramTables.number.Goals as goal

pub returns : goal.returns
returns c = λ p are. c.get.ensures (map (λ vi. vi.name) p.vis) are.vi_numbers_are ∙ vi-place c.args.name.now p.vis
