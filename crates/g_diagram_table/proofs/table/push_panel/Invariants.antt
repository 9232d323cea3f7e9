use Rattle.std.proofs.Common.{◌≡◌, ◌++◌, map, drop}
use Rattle.g_diagram.specs.Lines.{panel_entries}
use Rattle.g_diagram_table.specs.Seen.{seen}
use Rattle.g_diagram_table.proofs.table.push_panel.Given as goal

abbrev pub invariant-loop-item : goal.invariant-loop-item
invariant-loop-item l = map seen l.entries.items ++ panel_entries (drop l.item-index l.panel) l.line ≡ map seen l.fn.entries.items ++ panel_entries l.panel 1
