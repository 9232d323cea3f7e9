use Rattle.std.proofs.Common.{◌≡◌, ℕ, ◌++◌, drop, map}
use Rattle.g_diagram_table.specs.Seen.{seen_arm}
use Rattle.g_rules_types.specs.Known.{cases_of, case_among}
use Rattle.g_rules_types.proofs.types.add_branches.Given as goal

abbrev pub invariant-loop-arm : goal.invariant-loop-arm
invariant-loop-arm l =
    (d : ℕ) → cases_of l.branches d ++ case_among d l.number (map seen_arm (drop l.arm-index l.arms)) ≡ cases_of l.fn.branches d ++ case_among d l.number (map seen_arm l.arms)
