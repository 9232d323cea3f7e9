-- The steps of an object by the operations of the panel.
use Rattle.std.proofs.Common.{◌≡◌, ℕ, true, false, refl, ap, ◌∙◌, sym}
use Rattle.std.specs.Prelude.{Option, Some, None, is_some}
use Rattle.g_shared.specs.declared.operations.PanelOp.{PanelOp}
use Rattle.g_shared.specs.declared.operations.PanelOp.TheVariants.{Enter, Leave, Read, Write}
use Rattle.g_shared.specs.declared.reply.Reply.{Reply}
use Rattle.g_shared.specs.Panels.{PanelState, panel_step}
use Rattle.g_shared.specs.Queues.{QueueState}
use Rattle.g_shared.specs.Cells.{CellState}
use Rattle.g_shared.specs.Pools.{PoolState}
use Rattle.g_frames.specs.Contents.{Content, Panel, Queue, Cell, Pool}
use Rattle.g_objects.specs.declared.operation.Operation.TheVariants.{OnPanel}
use Rattle.g_objects.specs.Operations.{step}
use Rattle.g_objects.proofs.Steps.{done_as, none_as, some_as, can_as}

pub done : (old new : Content) (s t : PanelState) (o : PanelOp) (reply : Reply) → old ≡ Panel s → new ≡ Panel t → panel_step s o ≡ Some (reply, t) → step old (OnPanel o) 0 ≡ Some (reply, new)
done old new s t o reply was is e = rw (was, is) (done_as Panel (panel_step s o) reply t e)

pub waits : (old : Content) (s : PanelState) (o : PanelOp) → old ≡ Panel s → panel_step s o ≡ None → step old (OnPanel o) 0 ≡ None
waits old s o was e = rw was (none_as Panel (panel_step s o) e)

pub goes : (old : Content) (s : PanelState) (o : PanelOp) → old ≡ Panel s → is_some (panel_step s o) ≡ true → is_some (step old (OnPanel o) 0) ≡ true
goes old s o was e = rw was (can_as Panel (panel_step s o) e)

pub can_panel : (old : Content) (s : PanelState) (o : PanelOp) (k : ℕ) → old ≡ Panel s → is_some (step old (OnPanel o) k) ≡ is_some (panel_step s o)
can_panel old s o k was = rw was (some_as Panel (panel_step s o))

pub none_queue : (old : Content) (s : QueueState) (o : PanelOp) (k : ℕ) → old ≡ Queue s → step old (OnPanel o) k ≡ None
none_queue old s o k was = ap (λ c. step c (OnPanel o) k) was

pub not_queue : (old : Content) (s : QueueState) (o : PanelOp) (k : ℕ) → old ≡ Queue s → is_some (step old (OnPanel o) k) ≡ false
not_queue old s o k was = ap (λ c. is_some (step c (OnPanel o) k)) was

pub none_cell : (old : Content) (s : CellState) (o : PanelOp) (k : ℕ) → old ≡ Cell s → step old (OnPanel o) k ≡ None
none_cell old s o k was = ap (λ c. step c (OnPanel o) k) was

pub not_cell : (old : Content) (s : CellState) (o : PanelOp) (k : ℕ) → old ≡ Cell s → is_some (step old (OnPanel o) k) ≡ false
not_cell old s o k was = ap (λ c. is_some (step c (OnPanel o) k)) was

pub none_pool : (old : Content) (s : PoolState) (o : PanelOp) (k : ℕ) → old ≡ Pool s → step old (OnPanel o) k ≡ None
none_pool old s o k was = ap (λ c. step c (OnPanel o) k) was

pub not_pool : (old : Content) (s : PoolState) (o : PanelOp) (k : ℕ) → old ≡ Pool s → is_some (step old (OnPanel o) k) ≡ false
not_pool old s o k was = ap (λ c. is_some (step c (OnPanel o) k)) was

-- none waits
pub always : (s : PanelState) (o : PanelOp) → is_some (panel_step s o) ≡ true
always s (Enter vs) = refl
always s Leave = refl
always s (Read k) = refl
always s (Write k v) = refl

pub ruleset steps = (done, waits, goes, always, none_queue, none_cell, none_pool)

pub ruleset can = (can_panel, not_queue, not_cell, not_pool)
