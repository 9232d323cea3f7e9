-- The steps of an object by the operations of a queue.
use Rattle.std.proofs.Common.{◌≡◌, ℕ, true, false, refl, ap, ◌∙◌, sym}
use Rattle.std.specs.Prelude.{Option, Some, None, is_some}
use Rattle.g_shared.specs.declared.operations.QueueOp.{QueueOp}
use Rattle.g_shared.specs.declared.reply.Reply.{Reply}
use Rattle.g_shared.specs.Panels.{PanelState}
use Rattle.g_shared.specs.Queues.{QueueState, queue_step}
use Rattle.g_shared.specs.Cells.{CellState}
use Rattle.g_shared.specs.Pools.{PoolState}
use Rattle.g_frames.specs.Contents.{Content, Panel, Queue, Cell, Pool}
use Rattle.g_objects.specs.declared.operation.Operation.TheVariants.{OnQueue}
use Rattle.g_objects.specs.Operations.{step}
use Rattle.g_objects.proofs.Steps.{done_as, none_as, some_as, can_as}

pub done : (old new : Content) (s t : QueueState) (o : QueueOp) (reply : Reply) → old ≡ Queue s → new ≡ Queue t → queue_step s o ≡ Some (reply, t) → step old (OnQueue o) 0 ≡ Some (reply, new)
done old new s t o reply was is e = rw (was, is) (done_as Queue (queue_step s o) reply t e)

pub waits : (old : Content) (s : QueueState) (o : QueueOp) → old ≡ Queue s → queue_step s o ≡ None → step old (OnQueue o) 0 ≡ None
waits old s o was e = rw was (none_as Queue (queue_step s o) e)

pub goes : (old : Content) (s : QueueState) (o : QueueOp) → old ≡ Queue s → is_some (queue_step s o) ≡ true → is_some (step old (OnQueue o) 0) ≡ true
goes old s o was e = rw was (can_as Queue (queue_step s o) e)

pub can_queue : (old : Content) (s : QueueState) (o : QueueOp) (k : ℕ) → old ≡ Queue s → is_some (step old (OnQueue o) k) ≡ is_some (queue_step s o)
can_queue old s o k was = rw was (some_as Queue (queue_step s o))

pub none_panel : (old : Content) (s : PanelState) (o : QueueOp) (k : ℕ) → old ≡ Panel s → step old (OnQueue o) k ≡ None
none_panel old s o k was = ap (λ c. step c (OnQueue o) k) was

pub not_panel : (old : Content) (s : PanelState) (o : QueueOp) (k : ℕ) → old ≡ Panel s → is_some (step old (OnQueue o) k) ≡ false
not_panel old s o k was = ap (λ c. is_some (step c (OnQueue o) k)) was

pub none_cell : (old : Content) (s : CellState) (o : QueueOp) (k : ℕ) → old ≡ Cell s → step old (OnQueue o) k ≡ None
none_cell old s o k was = ap (λ c. step c (OnQueue o) k) was

pub not_cell : (old : Content) (s : CellState) (o : QueueOp) (k : ℕ) → old ≡ Cell s → is_some (step old (OnQueue o) k) ≡ false
not_cell old s o k was = ap (λ c. is_some (step c (OnQueue o) k)) was

pub none_pool : (old : Content) (s : PoolState) (o : QueueOp) (k : ℕ) → old ≡ Pool s → step old (OnQueue o) k ≡ None
none_pool old s o k was = ap (λ c. step c (OnQueue o) k) was

pub not_pool : (old : Content) (s : PoolState) (o : QueueOp) (k : ℕ) → old ≡ Pool s → is_some (step old (OnQueue o) k) ≡ false
not_pool old s o k was = ap (λ c. is_some (step c (OnQueue o) k)) was

pub ruleset steps = (done, waits, goes, none_panel, none_cell, none_pool)

pub ruleset can = (can_queue, not_panel, not_cell, not_pool)
