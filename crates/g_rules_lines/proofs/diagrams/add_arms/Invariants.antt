use Rattle.std.proofs.Common.{◌≡◌, ◌||◌, ◌==◌, ℕ, map, take}
use Rattle.std.specs.List.{list_any}
use Rattle.g_diagram_table.specs.Seen as table
use Rattle.g_rules_lines.specs.Names.{has_diagram}
use Rattle.g_rules_lines.proofs.diagrams.add_arms.Given as goal

abbrev pub invariant-loop-arm : goal.invariant-loop-arm
invariant-loop-arm l = (d : ℕ) → has_diagram l.diagrams d ≡ (has_diagram l.fn.diagrams d || list_any (λ x. x == d) (map (λ a. a.body) (map table.seen_arm (take l.arm-index l.arms))))
