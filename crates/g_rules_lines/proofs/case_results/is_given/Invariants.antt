use Rattle.std.proofs.Common.{◌≡◌, map, drop}
use Rattle.std.specs.List.{list_any}
use Rattle.g_diagram_table.specs.Seen as table
use Rattle.g_rules_lines.specs.CaseResults.{gives_result}
use Rattle.g_rules_lines.proofs.case_results.is_given.Given as goal

abbrev pub invariant-loop-arm : goal.invariant-loop-arm
invariant-loop-arm l = list_any (gives_result l.number) (map table.seen_arm (drop l.arm-index l.arms)) ≡ list_any (gives_result l.number) (map table.seen_arm l.arms)
