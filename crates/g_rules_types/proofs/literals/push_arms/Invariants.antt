use Rattle.std.proofs.Common.{◌≡◌, ◌++◌, drop, map}
use Rattle.g_diagram_table.specs.Seen.{seen_arm}
use Rattle.g_typing.specs.Literals.{arms_mistake}
use Rattle.g_rules_types.proofs.literals.push_arms.Given as goal

abbrev pub invariant-loop-arm : goal.invariant-loop-arm
invariant-loop-arm l =
    l.places.items ++ arms_mistake l.vi l.ty (map seen_arm (drop l.arm-index l.arms)) ≡ l.fn.places.items ++ arms_mistake l.vi l.ty (map seen_arm l.arms)
