use Rattle.std.proofs.Common.{◌≡◌, ◌++◌, drop, length}
use Rattle.g_border.specs.Readers as readers
use Rattle.g_node_values.proofs.given.paired.Given as goal

abbrev pub invariant-loop-value : goal.invariant-loop-value
invariant-loop-value l = l.given.items ++ readers.paired (drop (length l.given.items) l.places) l.value-iterator.rest.items ≡ readers.paired l.places l.fn.values
