use Rattle.g_graph.proofs.EdgeLemmas.{edge_added}
use Rattle.g_graph.proofs.edges.add_edge.Goals as goal

pub returns-clause-edges : goal.returns-clause-edges
returns-clause-edges c = edge_added c.args.graph.now.items c.args.from c.args.to c.index_mut.result.now c.push.new.self c.requires.from c.index_mut.ensures.value c.in_ok-push.ensures.items
