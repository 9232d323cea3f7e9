use Rattle.std.proofs.Common.{◌≡◌, take, map}
use Rattle.g_hier.proofs.spaces.system_list.Given as goal

abbrev pub invariant-loop-item : goal.invariant-loop-item
invariant-loop-item l = l.systems.items ≡ map (λ p. p.system) (take l.item-index l.placed)
