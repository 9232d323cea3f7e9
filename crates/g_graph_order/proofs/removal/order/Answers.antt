use Rattle.std.proofs.Common.{◌≡◌, length, arith}
use Rattle.g_graph_order.proofs.Removing.{removed_next, row_waits, is_order, has_cycle}
use Rattle.g_graph_order.proofs.removal.order.Goals as goal

pub release_from-requires-clause-waits : goal.release_from-requires-clause-waits
release_from-requires-clause-waits c =
    row_waits c.args.graph.now c.loop-node.counts.items c.loop-node.stack.items c.loop-node.nodes.items c.loop-node.invariant c.pop.new.self.items c.in-Some.node c.in-Some.ensures.items c.push.new.self.items c.in_ok-push.ensures.items

pub loop-node-preserved : goal.loop-node-preserved
loop-node-preserved c =
    removed_next c.args.graph.now c.loop-node.counts.items c.loop-node.stack.items c.loop-node.nodes.items c.loop-node.invariant c.pop.new.self.items c.in-Some.node c.in-Some.ensures.items c.push.new.self.items
    c.release_from.new.counts.items c.release_from.new.stack.items c.in_ok-push.ensures.items c.in_ok-release_from.ensures.len c.in_ok-release_from.ensures.counts c.in_ok-release_from.ensures.stack

pub returns-then-are_zero-clause-found : goal.returns-then-are_zero-clause-found
returns-then-are_zero-clause-found c =
    let empty : length c.loop-node.stack.items ≡ 0 = omega (arith, c.in_default.ensures.cases.0) in
    is_order c.args.graph.now c.loop-node.counts.items c.loop-node.stack.items c.loop-node.nodes.items c.loop-node.invariant empty (cc)

pub returns-clause-none : goal.returns-clause-none
returns-clause-none c e =
    let empty : length c.loop-node.stack.items ≡ 0 = omega (arith, c.in_default.ensures.cases.0) in
    has_cycle c.args.graph.now c.loop-node.counts.items c.loop-node.stack.items c.loop-node.nodes.items c.loop-node.invariant empty (cc)
