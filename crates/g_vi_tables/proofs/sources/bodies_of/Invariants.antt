use Rattle.std.proofs.Common.{◌≡◌, map, take}
use Rattle.g_diagram_table.specs.Seen as node
use Rattle.g_vi_tables.proofs.sources.bodies_of.Given as goal

abbrev pub invariant-loop-arm : goal.invariant-loop-arm
invariant-loop-arm l = l.bodies.items ≡ map (λ a. a.body) (map node.seen_arm (take l.arm-index l.arms))
