use Rattle.std.proofs.Common.{◌≡◌, ◌≤◌, ◌+◌, drop}
use Rattle.g_rules_lines.specs.Callees.{indicator_count}
use Rattle.g_rules_lines.proofs.callees.indicator_count.Given as goal

abbrev pub invariant-loop-item : goal.invariant-loop-item
invariant-loop-item l = record {
  told : l.count + indicator_count (drop l.item-index l.panel) ≡ indicator_count l.panel;
  small : l.count ≤ l.item-index;
}
