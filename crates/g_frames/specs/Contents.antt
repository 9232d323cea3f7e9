-- The shared objects of a run, and the one definition by which the machine speaks of operations on them.
use Rattle.std.specs.Prelude.{ℕ, List, None}
use Rattle.std.specs.Option.{option_map}
use Rattle.g_values.specs.declared.value.Value.{Value}
use Rattle.g_shared.specs.declared.operations.PanelOp.{PanelOp}
use Rattle.g_shared.specs.declared.operations.QueueOp.{QueueOp}
use Rattle.g_shared.specs.declared.operations.RefOp.{RefOp}
use Rattle.g_shared.specs.declared.operations.PoolOp.{PoolOp}
use Rattle.g_shared.specs.Outcome.{Outcome}
use Rattle.g_shared.specs.Panels.{PanelState, panel_step}
use Rattle.g_shared.specs.Queues.{QueueState, queue_step}
use Rattle.g_shared.specs.Cells.{CellState, cell_step, Body, in_place_step}
use Rattle.g_shared.specs.Pools.{PoolState, pool_step}

pub data Content : Type 0 where
  Panel : PanelState → Content
  Queue : QueueState → Content
  Cell : CellState → Content
  Pool : PoolState → Content

pub data Operation : Type 0 where
  OnPanel : PanelOp → Operation
  OnQueue : QueueOp → Operation
  OnCell : RefOp → Operation
  -- a body in place, by the serial of the reference and the other inputs
  InPlace : (serial : ℕ) → (inputs : List Value) → Operation
  OnPool : PoolOp → Operation

abbrev pub as_content : {S : Type 0} → (S → Content) → Outcome S → Outcome Content
as_content form outcome = option_map (λ r. (r.0, form r.1)) outcome

-- whether an operation can fire on an object's content, and then its reply and the content afterwards. The choice is the clone that a
-- pool's enter takes; the body is that of a structure in place
abbrev pub object_step : Content → Operation → (choice : ℕ) → Body → Outcome Content
object_step (Panel s) (OnPanel o) choice body = as_content Panel (panel_step s o)
object_step (Queue s) (OnQueue o) choice body = as_content Queue (queue_step s o)
object_step (Cell s) (OnCell o) choice body = as_content Cell (cell_step s o)
object_step (Cell s) (InPlace serial inputs) choice body = as_content Cell (in_place_step s serial inputs body)
object_step (Pool s) (OnPool o) choice body = as_content Pool (pool_step s o choice)
-- each kind of object has its own operations; another can't fire
object_step _ _ choice body = None
