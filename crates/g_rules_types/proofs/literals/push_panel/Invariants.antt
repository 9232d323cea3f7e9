use Rattle.std.proofs.Common.{◌≡◌, ◌++◌, drop}
use Rattle.g_typing.specs.Literals.{panel_mistakes}
use Rattle.g_rules_types.proofs.literals.push_panel.Given as goal

abbrev pub invariant-loop-item : goal.invariant-loop-item
invariant-loop-item l = l.places.items ++ panel_mistakes l.vi l.line (drop l.item-index l.panel) ≡ l.fn.places.items ++ panel_mistakes l.vi 1 l.panel
