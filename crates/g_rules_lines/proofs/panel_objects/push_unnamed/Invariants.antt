use Rattle.std.proofs.Common.{◌≡◌, ◌++◌, map, take}
use Rattle.g_diagram_table.specs.Seen.{seen}
use Rattle.g_rules_lines.specs.Spots.{break}
use Rattle.g_rules_lines.specs.PanelObjects.{unlocated}
use Rattle.g_rules_lines.specs.Names.{has_name}
use Rattle.g_rules_lines.proofs.panel_objects.push_unnamed.Given as goal

abbrev pub invariant-loop-entry : goal.invariant-loop-entry
invariant-loop-entry l = l.breaks.items ≡ l.fn.breaks.items ++ map (break l.vi 8) (unlocated (has_name l.names) (map seen (take l.entry-index l.entries)))
