use Rattle.std.proofs.Common.{◌≡◌, ◌++◌, map, drop}
use Rattle.g_diagram.specs.Lines.{arms}
use Rattle.g_diagram.proofs.LineLemmas.{branch_lines}
use Rattle.g_diagram_table.specs.Seen.{seen_arm}
use Rattle.g_diagram_table.proofs.table.arms_from.Given as goal

abbrev pub invariant-loop-branch : goal.invariant-loop-branch
invariant-loop-branch l = map seen_arm l.arms.items ++ arms l.line (map branch_lines (drop l.branch-index l.branches)) ≡ arms l.first (map branch_lines l.branches)
