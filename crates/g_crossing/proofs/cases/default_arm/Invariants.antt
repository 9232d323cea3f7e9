use Rattle.std.proofs.Common.{◌≡◌, map, drop}
use Rattle.g_border.specs.Cases as spec
use Rattle.g_diagram_table.specs.Seen.{seen_arm}
use Rattle.g_rules_cases.specs.Held as held
use Rattle.g_crossing.proofs.cases.default_arm.Given as goal

abbrev pub invariant-loop-arm : goal.invariant-loop-arm
invariant-loop-arm l = spec.first_arm held.is_default (map seen_arm (drop l.arm-index l.arms)) ≡ spec.first_arm held.is_default (map seen_arm l.arms)
