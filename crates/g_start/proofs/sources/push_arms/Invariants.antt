use Rattle.std.proofs.Common.{◌≡◌, ◌++◌, map, drop}
use Rattle.g_diagram_table.specs.Seen.{seen_arm}
use Rattle.g_start.proofs.sources.push_arms.Given as goal

abbrev pub invariant-loop-arm : goal.invariant-loop-arm
invariant-loop-arm l = l.diagrams.items ++ map (λ a. a.body) (map seen_arm (drop l.arm-index l.arms)) ≡ l.fn.diagrams.items ++ map (λ a. a.body) (map seen_arm l.arms)
