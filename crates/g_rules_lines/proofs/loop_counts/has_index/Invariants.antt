use Rattle.std.proofs.Common.{◌≡◌, drop}
use Rattle.std.specs.List.{list_any}
use Rattle.g_rules_lines.specs.LoopCounts.{is_index}
use Rattle.g_rules_lines.proofs.loop_counts.has_index.Given as goal

abbrev pub invariant-loop-line : goal.invariant-loop-line
invariant-loop-line l = list_any is_index (drop l.line-index l.lines) ≡ list_any is_index l.lines
