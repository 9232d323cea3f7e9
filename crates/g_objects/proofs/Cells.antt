-- The steps of an object by the operations of a value that references name.
use Rattle.std.proofs.Common.{◌≡◌, ℕ, true, false, refl, ap, ◌∙◌, sym}
use Rattle.std.specs.Prelude.{Option, Some, None, is_some}
use Rattle.g_shared.specs.declared.operations.RefOp.{RefOp}
use Rattle.g_shared.specs.declared.operations.RefOp.TheVariants.{Make, Delete}
use Rattle.g_values.specs.declared.value.Value.{Value}
use Rattle.g_shared.specs.declared.reply.Reply.{Reply}
use Rattle.g_shared.specs.Panels.{PanelState}
use Rattle.g_shared.specs.Queues.{QueueState}
use Rattle.g_shared.specs.Cells.{CellState, cell_step, delete, live_value}
use Rattle.g_shared.specs.Pools.{PoolState}
use Rattle.g_frames.specs.Contents.{Content, Panel, Queue, Cell, Pool}
use Rattle.g_objects.specs.declared.operation.Operation.TheVariants.{OnCell}
use Rattle.g_objects.specs.Operations.{step}
use Rattle.g_objects.proofs.Steps.{done_as, none_as, some_as, can_as}

pub done : (old new : Content) (s t : CellState) (o : RefOp) (reply : Reply) → old ≡ Cell s → new ≡ Cell t → cell_step s o ≡ Some (reply, t) → step old (OnCell o) 0 ≡ Some (reply, new)
done old new s t o reply was is e = rw (was, is) (done_as Cell (cell_step s o) reply t e)

pub waits : (old : Content) (s : CellState) (o : RefOp) → old ≡ Cell s → cell_step s o ≡ None → step old (OnCell o) 0 ≡ None
waits old s o was e = rw was (none_as Cell (cell_step s o) e)

pub goes : (old : Content) (s : CellState) (o : RefOp) → old ≡ Cell s → is_some (cell_step s o) ≡ true → is_some (step old (OnCell o) 0) ≡ true
goes old s o was e = rw was (can_as Cell (cell_step s o) e)

pub can_cell : (old : Content) (s : CellState) (o : RefOp) (k : ℕ) → old ≡ Cell s → is_some (step old (OnCell o) k) ≡ is_some (cell_step s o)
can_cell old s o k was = rw was (some_as Cell (cell_step s o))

pub none_panel : (old : Content) (s : PanelState) (o : RefOp) (k : ℕ) → old ≡ Panel s → step old (OnCell o) k ≡ None
none_panel old s o k was = ap (λ c. step c (OnCell o) k) was

pub not_panel : (old : Content) (s : PanelState) (o : RefOp) (k : ℕ) → old ≡ Panel s → is_some (step old (OnCell o) k) ≡ false
not_panel old s o k was = ap (λ c. is_some (step c (OnCell o) k)) was

pub none_queue : (old : Content) (s : QueueState) (o : RefOp) (k : ℕ) → old ≡ Queue s → step old (OnCell o) k ≡ None
none_queue old s o k was = ap (λ c. step c (OnCell o) k) was

pub not_queue : (old : Content) (s : QueueState) (o : RefOp) (k : ℕ) → old ≡ Queue s → is_some (step old (OnCell o) k) ≡ false
not_queue old s o k was = ap (λ c. is_some (step c (OnCell o) k)) was

pub none_pool : (old : Content) (s : PoolState) (o : RefOp) (k : ℕ) → old ≡ Pool s → step old (OnCell o) k ≡ None
none_pool old s o k was = ap (λ c. step c (OnCell o) k) was

pub not_pool : (old : Content) (s : PoolState) (o : RefOp) (k : ℕ) → old ≡ Pool s → is_some (step old (OnCell o) k) ≡ false
not_pool old s o k was = ap (λ c. is_some (step c (OnCell o) k)) was

deletes : (s : CellState) (m : Option Value) → is_some (delete s m) ≡ true
deletes s None = refl
deletes s (Some v) = refl

-- none waits
pub always : (s : CellState) (o : RefOp) → is_some (cell_step s o) ≡ true
always s (Make v) = refl
always s (Delete n) = deletes s (live_value s n)

pub ruleset steps = (done, waits, goes, always, none_panel, none_queue, none_pool)

pub ruleset can = (can_cell, not_panel, not_queue, not_pool)
