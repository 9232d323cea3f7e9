use Rattle.std.proofs.Common.{◌≡◌, ◌++◌, drop}
use Rattle.g_frames.specs.Panels as panels
use Rattle.g_node_values.proofs.panel.control_defaults.Given as goal

abbrev pub invariant-loop-item : goal.invariant-loop-item
invariant-loop-item l = l.values.items ++ panels.control_defaults (drop l.item-index l.items) ≡ panels.control_defaults l.items
