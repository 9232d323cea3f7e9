use Rattle.std.proofs.Common.{◌≡◌, drop}
use Rattle.std.specs.List.{list_any}
use Rattle.g_rules_cases.specs.Held as held
use Rattle.g_crossing.proofs.cases.some_default.Given as goal

abbrev pub invariant-loop-i : goal.invariant-loop-i
invariant-loop-i l = list_any held.is_default (drop l.i l.selectors) ≡ list_any held.is_default l.selectors
