use Rattle.std.proofs.Common.{◌≡◌, ◌+◌, ◌++◌, drop}
use Rattle.g_graph.specs.Graph.{is_marked}
use Rattle.g_hier.specs.CallGraph.{breaks_from}
use Rattle.g_hier.proofs.recursions.marked_breaks.Given as goal

abbrev pub invariant-loop-at : goal.invariant-loop-at
invariant-loop-at l = l.breaks.items ++ breaks_from (is_marked l.marks) (l.first + l.at) (drop l.at l.calls) ≡ breaks_from (is_marked l.marks) l.first l.calls
