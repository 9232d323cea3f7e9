use Rattle.std.proofs.Common.{◌≡◌, ◌++◌, map, take}
use Rattle.g_diagram_table.specs.Seen.{seen}
use Rattle.g_rules_lines.specs.Spots.{break}
use Rattle.g_rules_lines.specs.Arity.{miscounted}
use Rattle.g_rules_lines.specs.Names.{arity_in}
use Rattle.g_rules_lines.proofs.arity.push_miscounted.Given as goal

abbrev pub invariant-loop-entry : goal.invariant-loop-entry
invariant-loop-entry l = l.breaks.items ≡ l.fn.breaks.items ++ map (break l.vi 5) (miscounted (arity_in l.known) (map seen (take l.entry-index l.entries)))
