use Rattle.std.proofs.Common.{◌≡◌, ◌++◌, map, take}
use Rattle.g_diagram_table.specs.Seen.{seen}
use Rattle.g_rules_lines.specs.Spots.{break}
use Rattle.g_rules_lines.specs.LoopCounts.{countless}
use Rattle.g_rules_lines.proofs.loop_counts.push_countless.Given as goal

abbrev pub invariant-loop-entry : goal.invariant-loop-entry
invariant-loop-entry l = l.breaks.items ≡ l.fn.breaks.items ++ map (break l.vi 13) (countless (map seen (take l.entry-index l.entries)))
