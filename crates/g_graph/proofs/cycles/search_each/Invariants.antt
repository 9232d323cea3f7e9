use Rattle.g_graph.specs.Graph.{TellsCycles}
use Rattle.g_graph.proofs.cycles.search_each.Given as goal

abbrev pub invariant-loop-node : goal.invariant-loop-node
invariant-loop-node l = TellsCycles l.graph l.node l.marks.items
