use Rattle.std.proofs.Common.{◌≡◌, ◌++◌, map, drop}
use Rattle.g_diagram_table.specs.Seen as table
use Rattle.g_rules_lines.specs.Spots.{break}
use Rattle.g_rules_lines.specs.InPlaceBodies as spec
use Rattle.g_rules_lines.specs.Names.{has_diagram}
use Rattle.g_rules_lines.proofs.in_place_bodies.push_all_spare_refs.Given as goal

abbrev pub invariant-loop-entry : goal.invariant-loop-entry
invariant-loop-entry l = l.breaks.items ++ map (break l.vi 12) (spec.all_spare_refs (has_diagram l.diagrams) (map table.seen (drop l.entry-index l.entries))) ≡ l.fn.breaks.items ++ map (break l.vi 12) (spec.all_spare_refs (has_diagram l.diagrams) (map table.seen l.entries))
