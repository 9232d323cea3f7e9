use Rattle.std.proofs.Common.{◌≡◌, ◌||◌, ℤ, take}
use Rattle.std.specs.List.{list_any}
use Rattle.g_rules_cases.specs.Held.{has_number}
use Rattle.g_rules_types.specs.Gaps.{has}
use Rattle.g_rules_types.proofs.gaps.push_intervals.Given as goal

abbrev pub invariant-loop-selector : goal.invariant-loop-selector
invariant-loop-selector l = (n : ℤ) → list_any (has n) l.intervals.items ≡ (list_any (has n) l.initial.intervals.items || list_any (has_number n) (take l.selector-index l.selectors))
