use Rattle.std.proofs.Common.{◌≡◌, ◌||◌, ◌==◌, ℕ, map, take}
use Rattle.std.specs.List.{list_any}
use Rattle.g_diagram_table.specs.Seen as table
use Rattle.g_rules_lines.specs.Names.{has_diagram}
use Rattle.g_rules_lines.proofs.diagrams.add_parts.Given as goal

abbrev pub invariant-loop-part : goal.invariant-loop-part
invariant-loop-part l = (d : ℕ) → has_diagram l.diagrams d ≡ (has_diagram l.fn.diagrams d || list_any (λ x. x == d) (map (λ p. p.body) (map table.seen_part (take l.part-index l.parts))))
