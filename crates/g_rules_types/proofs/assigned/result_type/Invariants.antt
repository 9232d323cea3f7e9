use Rattle.std.proofs.Common.{◌≡◌, drop, map}
use Rattle.g_diagram_table.specs.Seen.{seen_arm}
use Rattle.g_typing.specs.Typing.{result_type}
use Rattle.g_rules_types.specs.Known.{types_of}
use Rattle.g_rules_types.proofs.assigned.result_type.Given as goal

abbrev pub invariant-loop-arm : goal.invariant-loop-arm
invariant-loop-arm l = result_type (types_of l.types) l.k (map seen_arm (drop l.arm-index l.arms)) ≡ result_type (types_of l.types) l.k (map seen_arm l.arms)
