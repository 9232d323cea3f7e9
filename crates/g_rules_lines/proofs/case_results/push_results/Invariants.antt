use Rattle.std.proofs.Common.{◌≡◌, ◌≤◌, ◌+◌, ◌++◌, map, drop}
use Rattle.g_diagram_table.specs.Seen as table
use Rattle.g_rules_lines.specs.Spots.{break}
use Rattle.g_rules_lines.specs.CaseResults.{ungiven}
use Rattle.g_rules_lines.proofs.case_results.push_results.Given as goal

abbrev pub invariant-loop-tunnel : goal.invariant-loop-tunnel
invariant-loop-tunnel l = record {
  small : l.number ≤ l.tunnel-index;
  operand : l.operand ≡ l.number + 1;
  told : l.breaks.items ++ map (break l.vi 11) (ungiven l.line l.number (map table.seen_arm l.arms) (drop l.tunnel-index l.lines))
      ≡ l.fn.breaks.items ++ map (break l.vi 11) (ungiven l.first 0 (map table.seen_arm l.arms) l.lines);
}
