use Rattle.g_queues.proofs.Holds.{item_spelled, of_rest}
use Rattle.g_queues.proofs.queue.Queue.dequeue.Goals as goal

pub two_values-requires-clause-first : goal.two_values-requires-clause-first
two_values-requires-clause-first c =
    let q = c.self.inside in
    c.in_ok-value.ensures.proper (item_spelled q.item q.size q.items c.self.invariant)

pub invariant_of-self : goal.invariant_of-self
invariant_of-self c =
    let q = c.self.inside in
    of_rest q.item q.size q.items c.pop-front.new.self c.pop-front.result c.pop-front.ensures.front c.self.invariant
