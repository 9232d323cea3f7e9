use Rattle.std.proofs.Common.{◌≡◌, take, map}
use Rattle.g_hier.proofs.spaces.space_list.Given as goal

abbrev pub invariant-loop-item : goal.invariant-loop-item
invariant-loop-item l = l.spaces.items ≡ map (λ p. p.space) (take l.item-index l.placed)
