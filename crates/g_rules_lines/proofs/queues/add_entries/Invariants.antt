use Rattle.std.proofs.Common.{◌≡◌, ℕ, List, map, drop}
use Rattle.std.specs.Option.{option_or}
use Rattle.g_diagram_table.specs.Seen.{seen}
use Rattle.g_rules_lines.specs.Queues.{first_queue, queues_in}
use Rattle.g_rules_lines.specs.Names.{queue_at}
use Rattle.g_rules_lines.proofs.queues.add_entries.Given as goal

abbrev pub invariant-loop-entry : goal.invariant-loop-entry
invariant-loop-entry l = (n : List ℕ) → option_or (queue_at l.known n) (first_queue (queues_in (map seen (drop l.entry-index l.entries))) n)
    ≡ option_or (queue_at l.fn.known n) (first_queue (queues_in (map seen l.entries)) n)
