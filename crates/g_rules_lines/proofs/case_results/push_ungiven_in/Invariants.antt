use Rattle.std.proofs.Common.{◌≡◌, ◌++◌, map, take}
use Rattle.g_diagram_table.specs.Seen as table
use Rattle.g_rules_lines.specs.Spots.{break}
use Rattle.g_rules_lines.specs.CaseResults.{ungiven_in}
use Rattle.g_rules_lines.proofs.case_results.push_ungiven_in.Given as goal

abbrev pub invariant-loop-arm : goal.invariant-loop-arm
invariant-loop-arm l = l.breaks.items ≡ l.fn.breaks.items ++ map (break l.vi 11) (ungiven_in l.number (map table.seen_arm (take l.arm-index l.arms)))
