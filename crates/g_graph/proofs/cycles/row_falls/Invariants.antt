use Rattle.std.proofs.Common.{take}
use Rattle.g_graph.specs.Hints.{RowFalls}
use Rattle.g_graph.proofs.cycles.row_falls.Given as goal

abbrev pub invariant-loop-to : goal.invariant-loop-to
invariant-loop-to l = RowFalls l.hints l.hint (take l.to-index l.row)
