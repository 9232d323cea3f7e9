use Rattle.std.proofs.Common.{◌∙◌}
use Rattle.g_hier.proofs.Vertices.{edges_next}
use Rattle.g_hier.proofs.graph.graph_of.Goals as goal

pub loop-at-preserved : goal.loop-at-preserved
loop-at-preserved c = record {
  len = c.add_call.ensures.len ∙ c.loop-at.invariant.len;
  in_range = c.in_ok-add_call.ensures.in_range;
  edges = λ a b. edges_next c.args.count c.args.calls.now c.loop-at.at _ a b _ _ c.loop-at-test.true (c.in_ok-add_call.ensures.edges a b) (c.loop-at.invariant.edges a b);
}
