use Rattle.std.proofs.Common.{◌≡◌, ◌++◌, map, drop}
use Rattle.g_diagram_table.specs.Seen.{seen}
use Rattle.g_rules_lines.specs.Spots.{break}
use Rattle.g_rules_lines.specs.CaseResults.{resultless}
use Rattle.g_rules_lines.proofs.case_results.push_resultless.Given as goal

abbrev pub invariant-loop-entry : goal.invariant-loop-entry
invariant-loop-entry l = l.breaks.items ++ map (break l.vi 11) (resultless (map seen (drop l.entry-index l.entries))) ≡ l.fn.breaks.items ++ map (break l.vi 11) (resultless (map seen l.entries))
