use Rattle.std.proofs.Common.{map, ◌∙◌}
use Rattle.g_frames.specs.declared.program.KeptPlace.{KeptPlace}
use Rattle.g_program.proofs.NumberLemmas.{line-place}
use Rattle.g_program.proofs.table.ProgramTables.kept_number.Goals as goal

pub returns : goal.returns
returns c = λ p are. c.get.ensures (map (λ k. (k.space, k.line)) p.kept) are.kept_numbers_are ∙ line-place (λ (k : KeptPlace). (k.space, k.line)) c.args.space c.args.line p.kept
