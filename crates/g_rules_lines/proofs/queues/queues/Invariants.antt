use Rattle.std.proofs.Common.{◌≡◌, ℕ, List, drop}
use Rattle.std.specs.Option.{option_or}
use Rattle.g_rules_lines.specs.Queues.{first_queue, all_queues}
use Rattle.g_rules_lines.specs.Names.{queue_at}
use Rattle.g_rules_lines.proofs.queues.queues.Given as goal

abbrev pub invariant-loop-vi : goal.invariant-loop-vi
invariant-loop-vi l = (n : List ℕ) → option_or (queue_at l.known n) (first_queue (all_queues (drop l.vi-index l.vis)) n) ≡ first_queue (all_queues l.vis) n
