use Rattle.std.proofs.Common.{◌≡◌, ◌||◌, ℤ, drop, map}
use Rattle.std.specs.List.{list_any}
use Rattle.g_diagram_table.specs.Seen.{seen_arm}
use Rattle.g_rules_cases.specs.Held.{has_number}
use Rattle.g_typing.specs.Selected as spec
use Rattle.g_rules_types.specs.Gaps.{has}
use Rattle.g_rules_types.proofs.gaps.all_intervals.Given as goal

abbrev pub invariant-loop-arm : goal.invariant-loop-arm
invariant-loop-arm l =
    (n : ℤ) → (list_any (has n) l.intervals.items || list_any (has_number n) (spec.selectors_of (map seen_arm (drop l.arm-index l.arms)))) ≡ list_any (has_number n) (spec.selectors_of (map seen_arm l.arms))
