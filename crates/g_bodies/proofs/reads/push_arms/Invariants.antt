use Rattle.std.proofs.Common.{◌≡◌, ◌++◌, map, drop}
use Rattle.g_border.specs.Bodies.{arms_read}
use Rattle.g_diagram_table.specs.Seen.{seen_arm}
use Rattle.g_bodies.specs.Steps.{seen_read}
use Rattle.g_bodies.proofs.reads.push_arms.Given as goal

abbrev pub invariant-loop-arm : goal.invariant-loop-arm
invariant-loop-arm l =
    map seen_read l.reads.items ++ arms_read (map seen_arm (drop l.arm-index l.arms)) ≡ map seen_read l.fn.reads.items ++ arms_read (map seen_arm l.arms)
