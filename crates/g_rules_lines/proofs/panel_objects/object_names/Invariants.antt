use Rattle.std.proofs.Common.{◌≡◌, ℕ, List, take}
use Rattle.g_rules_lines.specs.PanelObjects.{names_object}
use Rattle.g_rules_lines.specs.Names.{has_name}
use Rattle.g_rules_lines.proofs.panel_objects.object_names.Given as goal

abbrev pub invariant-loop-item : goal.invariant-loop-item
invariant-loop-item l = (name : List ℕ) → has_name l.names name ≡ names_object (take l.item-index l.panel) name
