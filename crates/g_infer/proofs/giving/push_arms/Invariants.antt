use Rattle.std.proofs.Common.{◌≡◌, ◌++◌, drop, map}
use Rattle.g_diagram_table.specs.Seen.{seen_arm}
use Rattle.g_infer.specs.Given.{seen_given}
use Rattle.g_rules_types.specs.Known.{types_of}
use Rattle.g_typing.specs.Typing.{arms_inside}
use Rattle.g_infer.proofs.giving.push_arms.Given as goal

abbrev pub invariant-loop-arm : goal.invariant-loop-arm
invariant-loop-arm l =
    map seen_given l.givens.items ++ arms_inside (types_of l.types) l.outside l.tunnels (map seen_arm (drop l.arm-index l.arms))
    ≡ map seen_given l.fn.givens.items ++ arms_inside (types_of l.types) l.outside l.tunnels (map seen_arm l.arms)
