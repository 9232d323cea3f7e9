use Rattle.std.proofs.Common.{◌+◌, length}
use Rattle.g_hier.specs.Settling.{Settling, total}
use Rattle.g_hier.proofs.counts.count_spaces.Given as goal

abbrev pub invariant-loop-vi : goal.invariant-loop-vi
invariant-loop-vi l = Settling l.outlines l.main l.waiting.items l.incoming.items l.counts.items l.ready.items

abbrev pub decreases-loop-vi : goal.decreases-loop-vi
decreases-loop-vi l = total l.waiting.items + length l.ready.items
