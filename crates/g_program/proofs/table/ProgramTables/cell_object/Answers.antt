use Rattle.std.proofs.Common.{◌≡◌, ◌+◌, length, map, ap, ◌∙◌}
use Rattle.std.proofs.lemmas.List.{length-map}
use Rattle.g_frames.specs.declared.program.CellPlace.{CellPlace}
use Rattle.g_frames.specs.declared.program.QueueName.{QueueName}
use Rattle.g_program.proofs.NumberLemmas.{line-place}
use Rattle.g_program.proofs.table.ProgramTables.cell_object.Goals as goal

pub returns : goal.returns
returns c = λ p are.
    let queues : c.count.result ≡ length p.queues = c.count.ensures (map (λ q. q.name) p.queues) are.queue_numbers_are ∙ length-map p.queues (λ (q : QueueName). q.name) in
    ap (λ n. n + c.get-number.result) queues
    ∙ ap (λ n. length p.queues + n)
    (c.get-number.ensures (map (λ x. (x.space, x.line)) p.cells) are.cell_numbers_are ∙ line-place (λ (x : CellPlace). (x.space, x.line)) c.args.space c.args.line p.cells)
