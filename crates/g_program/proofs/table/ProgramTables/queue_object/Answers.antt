use Rattle.std.proofs.Common.{map, ◌∙◌}
use Rattle.g_program.proofs.NumberLemmas.{queue-place}
use Rattle.g_program.proofs.table.ProgramTables.queue_object.Goals as goal

pub returns : goal.returns
returns c = λ p are. c.get.ensures (map (λ q. q.name) p.queues) are.queue_numbers_are ∙ queue-place c.args.name.now p.queues
