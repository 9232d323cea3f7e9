use Rattle.std.proofs.Common.{◌≡◌, ◌≤◌, ◌+◌, drop}
use Rattle.g_rules_lines.specs.Callees.{control_count}
use Rattle.g_rules_lines.proofs.callees.control_count.Given as goal

abbrev pub invariant-loop-item : goal.invariant-loop-item
invariant-loop-item l = record {
  told : l.count + control_count (drop l.item-index l.panel) ≡ control_count l.panel;
  small : l.count ≤ l.item-index;
}
