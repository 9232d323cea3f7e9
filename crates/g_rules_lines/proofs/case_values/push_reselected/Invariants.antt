use Rattle.std.proofs.Common.{◌≡◌, ◌++◌, map, drop}
use Rattle.g_diagram_table.specs.Seen as table
use Rattle.g_rules_lines.specs.Spots.{break}
use Rattle.g_rules_lines.specs.CaseValues as spec
use Rattle.g_rules_lines.proofs.case_values.push_reselected.Given as goal

abbrev pub invariant-loop-entry : goal.invariant-loop-entry
invariant-loop-entry l = l.breaks.items ++ map (break l.vi 10) (spec.reselected (map table.seen (drop l.entry-index l.entries))) ≡ l.fn.breaks.items ++ map (break l.vi 10) (spec.reselected (map table.seen l.entries))
