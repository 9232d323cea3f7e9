use Rattle.std.proofs.Common.{◌≡◌, ◌++◌, drop, map}
use Rattle.std.specs.Option.{option_copied}
use Rattle.g_diagram_table.specs.Seen.{seen_arm}
use Rattle.g_typing.specs.Assigned.{gives_unlike}
use Rattle.g_rules_types.specs.Known.{types_of}
use Rattle.g_rules_types.proofs.assigned.push_gives.Given as goal

abbrev pub invariant-loop-arm : goal.invariant-loop-arm
invariant-loop-arm l =
    l.places.items ++ gives_unlike (types_of l.types) l.vi l.k (option_copied l.to) (map seen_arm (drop l.arm-index l.arms))
    ≡ l.fn.places.items ++ gives_unlike (types_of l.types) l.vi l.k (option_copied l.to) (map seen_arm l.arms)
