use Rattle.std.proofs.Common.{◌≡◌, ◌++◌, map, drop}
use Rattle.g_frames.specs.Panels.{control_names}
use Rattle.g_vi_tables.proofs.panel.push_controls.Given as goal

abbrev pub invariant-loop-item : goal.invariant-loop-item
invariant-loop-item l = map (λ n. n.now) l.names.items ++ control_names (drop l.item-index l.panel) ≡ map (λ n. n.now) l.fn.names.items ++ control_names l.panel
