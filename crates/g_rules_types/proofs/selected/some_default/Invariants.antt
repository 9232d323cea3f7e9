use Rattle.std.proofs.Common.{◌≡◌, drop, map}
use Rattle.std.specs.List.{list_any}
use Rattle.g_diagram_table.specs.Seen.{seen_arm}
use Rattle.g_rules_cases.specs.Held.{is_default}
use Rattle.g_typing.specs.Selected.{selectors_of}
use Rattle.g_rules_types.proofs.selected.some_default.Given as goal

abbrev pub invariant-loop-arm : goal.invariant-loop-arm
invariant-loop-arm l = list_any (is_default) (selectors_of (map seen_arm (drop l.arm-index l.arms))) ≡ list_any (is_default) (selectors_of (map seen_arm l.arms))
