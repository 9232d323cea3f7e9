use Rattle.std.proofs.Common.{◌≡◌, ℕ, List, drop}
use Rattle.std.specs.Option.{option_or}
use Rattle.g_typing.specs.Typing.{panel_type}
use Rattle.g_rules_types.specs.Panels.{objects_in}
use Rattle.g_rules_types.proofs.panels.object_types.Given as goal

abbrev pub invariant-loop-item : goal.invariant-loop-item
invariant-loop-item l = (name : List ℕ) → option_or (objects_in l.types name) (panel_type (drop l.item-index l.panel) name) ≡ panel_type l.panel name
