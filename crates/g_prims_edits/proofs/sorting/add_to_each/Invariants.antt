use Rattle.std.proofs.Common.{◌≡◌, ◌+◌, ◌%◌, ◌^◌, ◌++◌, take, drop, map}
use Rattle.g_prims_edits.proofs.sorting.add_to_each.Given as goal

abbrev pub invariant-loop-at : goal.invariant-loop-at
invariant-loop-at l = l.words.items ≡ map (λ w. (w + l.by) % 2 ^ 64) (take l.at l.fn.words.items) ++ drop l.at l.fn.words.items
