use Rattle.std.proofs.Common.{◌≡◌, length, arith}
use Rattle.g_graph.specs.Graph.{has, has_edge, is_marked}
use Rattle.g_graph.proofs.Search.{found_next, found_all, has_push, has_none}
use Rattle.g_graph.proofs.reach.reach.Goals as goal

pub loop-node-preserved : goal.loop-node-preserved
loop-node-preserved c = record {
  len = omega (arith, c.in_ok-visit_from-2.ensures.len);
  found = found_next (has_edge c.args.graph.now) c.args.from c.in-Some.node
      (is_marked c.loop-node.marks.items) (is_marked c.visit_from-in-Some.new.marks.items) (has c.loop-node.stack.items) (has c.pop.new.self.items) (has c.visit_from-in-Some.new.stack.items)
      (λ b. has_push c.loop-node.stack.items c.pop.new.self.items c.in-Some.node b c.in-Some.ensures.items)
      c.in_ok-visit_from-2.ensures.marks c.in_ok-visit_from-2.ensures.stack c.loop-node.invariant.found;
}

pub returns-clause-complete : goal.returns-clause-complete
returns-clause-complete c = let e : length c.loop-node.stack.items ≡ 0 = omega (arith, c.in_default.ensures.cases.0) in found_all (has_edge c.args.graph.now) c.args.from (is_marked c.loop-node.marks.items) (has c.loop-node.stack.items) c.loop-node.invariant.found
    (has_none c.loop-node.stack.items e)
