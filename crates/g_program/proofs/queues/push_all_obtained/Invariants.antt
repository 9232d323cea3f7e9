use Rattle.std.proofs.Common.{◌≡◌, ◌++◌, map, drop}
use Rattle.g_diagram_table.specs.Seen.{seen}
use Rattle.g_frames.specs.Program.{all_on, queue_on}
use Rattle.g_program.specs.Queues.{seen_queue}
use Rattle.g_program.proofs.queues.push_all_obtained.Given as goal

abbrev pub invariant-loop-entry : goal.invariant-loop-entry
invariant-loop-entry l =
    map seen_queue l.queues.items ++ all_on (λ e. queue_on e.kind) (map seen (drop l.entry-index l.entries)) ≡ map seen_queue l.fn.queues.items ++ all_on (λ e. queue_on e.kind) (map seen l.entries)
