use Rattle.std.proofs.Common.{◌≡◌, ℕ, List, drop}
use Rattle.std.specs.Option.{option_or}
use Rattle.g_typing.specs.Typing.{panel_type}
use Rattle.g_vi_tables.specs.Types.{named_type}
use Rattle.g_vi_tables.proofs.panel.objects_of.Given as goal

abbrev pub invariant-loop-item : goal.invariant-loop-item
invariant-loop-item l = (name : List ℕ) → option_or (named_type l.types name) (panel_type (drop l.item-index l.panel) name) ≡ panel_type l.panel name
