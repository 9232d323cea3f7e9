use Rattle.std.proofs.Common.{◌≡◌, map, take}
use Rattle.g_diagram_table.specs.Seen.{seen_arm}
use Rattle.g_diagram_ports.proofs.ports.bodies_of.Given as goal

abbrev pub invariant-loop-arm : goal.invariant-loop-arm
invariant-loop-arm l = l.bodies.items ≡ map (λ a. a.body) (map seen_arm (take l.arm-index l.arms))
