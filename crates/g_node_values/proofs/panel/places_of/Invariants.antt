use Rattle.std.proofs.Common.{◌≡◌, ◌++◌, drop}
use Rattle.g_node_values.specs.Controls.{control_places}
use Rattle.g_node_values.proofs.panel.places_of.Given as goal

abbrev pub invariant-loop-item : goal.invariant-loop-item
invariant-loop-item l = l.places.items ++ control_places l.line (drop l.item-index l.items) ≡ control_places 1 l.items
