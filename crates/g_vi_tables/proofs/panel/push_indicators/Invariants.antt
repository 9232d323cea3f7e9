use Rattle.std.proofs.Common.{◌≡◌, ◌++◌, map, drop}
use Rattle.g_frames.specs.Panels.{indicator_names}
use Rattle.g_vi_tables.proofs.panel.push_indicators.Given as goal

abbrev pub invariant-loop-item : goal.invariant-loop-item
invariant-loop-item l = map (λ n. n.now) l.names.items ++ indicator_names (drop l.item-index l.panel) ≡ map (λ n. n.now) l.fn.names.items ++ indicator_names l.panel
