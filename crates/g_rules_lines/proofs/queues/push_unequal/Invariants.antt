use Rattle.std.proofs.Common.{◌≡◌, ◌++◌, map, take}
use Rattle.g_diagram_table.specs.Seen.{seen}
use Rattle.g_rules_lines.specs.Spots.{break}
use Rattle.g_rules_lines.specs.Queues.{unequal}
use Rattle.g_rules_lines.specs.Names.{queue_at}
use Rattle.g_rules_lines.proofs.queues.push_unequal.Given as goal

abbrev pub invariant-loop-entry : goal.invariant-loop-entry
invariant-loop-entry l = l.breaks.items ≡ l.fn.breaks.items ++ map (break l.vi 14) (unequal (queue_at l.known) (map seen (take l.entry-index l.entries)))
