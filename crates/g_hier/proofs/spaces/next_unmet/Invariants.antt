use Rattle.std.proofs.Common.{◌≡◌, reverse, length}
use Rattle.std.specs.BTreeSet.{contains}
use Rattle.g_hier.specs.Walking.{unmet}
use Rattle.g_hier.specs.Walking.{space_cmp}
use Rattle.g_hier.proofs.spaces.next_unmet.Given as goal

abbrev pub invariant-loop-placed : goal.invariant-loop-placed
invariant-loop-placed l = unmet (λ s. contains space_cmp l.met s) (reverse l.pending.items) ≡ unmet (λ s. contains space_cmp l.met s) (reverse l.fn.pending.items)

abbrev pub decreases-loop-placed : goal.decreases-loop-placed
decreases-loop-placed l = length l.pending.items
