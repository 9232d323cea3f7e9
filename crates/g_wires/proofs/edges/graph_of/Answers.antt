use Rattle.std.proofs.Common.{◌∙◌}
use Rattle.g_wires.specs.Marks.{is_edge}
use Rattle.g_wires.proofs.EdgeLemmas.{edges_more}
use Rattle.g_wires.proofs.edges.graph_of.Goals as goal

pub loop-port-preserved : goal.loop-port-preserved
loop-port-preserved c = record {
  len = c.add_port.ensures.len ∙ c.loop-port.invariant.len;
  in_range = c.in_ok-add_port.ensures.in_range;
  edges = λ a b. edges_more (is_edge c.args.lines a b) c.args.ports.now c.loop-port.port-index _ _ _ c.loop-port-test.true (c.in_ok-add_port.ensures.edges a b) (c.loop-port.invariant.edges a b);
}
