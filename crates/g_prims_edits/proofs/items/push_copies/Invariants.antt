use Rattle.std.proofs.Common.{◌≡◌, ◌++◌, take}
use Rattle.g_prims_edits.proofs.items.push_copies.Given as goal

abbrev pub invariant-loop-value : goal.invariant-loop-value
invariant-loop-value l = l.items ≡ l.fn.items ++ take l.value-index l.more
