use Rattle.std.proofs.Common.{◌≡◌, ℕ, ◌||◌, drop, map}
use Rattle.g_diagram_table.specs.Seen.{seen_arm}
use Rattle.g_graph.specs.Graph.{has}
use Rattle.g_rules_lines.specs.Names.{has_name}
use Rattle.g_infer.specs.Feeding.{branch_leads}
use Rattle.g_infer.proofs.feeds.push_in_branches.Given as goal

abbrev pub invariant-loop-arm : goal.invariant-loop-arm
invariant-loop-arm l =
    (b : ℕ) → (has l.row.items b || branch_leads (has_name l.names) l.readers (map seen_arm (drop l.arm-index l.arms)) b)
    ≡ (has l.fn.row.items b || branch_leads (has_name l.names) l.readers (map seen_arm l.arms) b)
