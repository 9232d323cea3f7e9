use Rattle.std.proofs.Common.{◌≡◌, ℕ, map, drop}
use Rattle.g_diagram_table.specs.Seen as table
use Rattle.g_rules_lines.specs.InPlaceBodies as spec
use Rattle.g_rules_lines.specs.Names.{has_diagram}
use Rattle.g_rules_lines.proofs.diagrams.insides.Given as goal

abbrev pub invariant-loop-entry : goal.invariant-loop-entry
invariant-loop-entry l = (d : ℕ) → spec.gathered spec.is_inside (has_diagram l.diagrams) (map table.seen (drop l.entry-index l.entries)) d ≡ spec.insides (map table.seen l.entries) d
