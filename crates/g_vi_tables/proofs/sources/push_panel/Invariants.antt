use Rattle.std.proofs.Common.{◌≡◌, ◌++◌, map, drop}
use Rattle.g_vi_tables.specs.Sources.{seen, panel_sources}
use Rattle.g_vi_tables.proofs.sources.push_panel.Given as goal

abbrev pub invariant-loop-item : goal.invariant-loop-item
invariant-loop-item l = map seen l.sources.items ++ panel_sources l.line (drop l.item-index l.panel) ≡ map seen l.fn.sources.items ++ panel_sources 1 l.panel
