-- Nodes that do one operation on a shared object: a panel, a queue or what a reference names.
use Rattle.std.specs.Prelude.{ℕ, List, Option, Some, None, slice_get, negsuc}
use Rattle.std.specs.Option.{option_map, option_and_then, option_map_or, unwrap_or}
use Rattle.g_types.specs.declared.ty.Ty.{Ty}
use Rattle.g_values.specs.declared.value.Live.{Live}
use Rattle.g_values.specs.declared.value.Value.{Value, out-Value}
use Rattle.g_values.specs.declared.value.Value.TheOpen.{Value-F}
use Rattle.g_values.specs.Coerce.{coerced}
use Rattle.g_prims_definitions.specs.Clusters.{or_nothing}
use Rattle.g_operations.specs.declared.shared.SharedOp.{SharedOp}
use Rattle.g_operations.specs.declared.shared.SharedOp.TheVariants as shared
use Rattle.g_diagram.specs.Lines.{Entry}
use Rattle.g_shared.specs.declared.operations.PanelOp.{PanelOp}
use Rattle.g_shared.specs.declared.operations.QueueOp.TheVariants as queue
use Rattle.g_shared.specs.declared.operations.RefOp.TheVariants as ref
use Rattle.g_shared.specs.declared.reply.Reply.{Reply}
use Rattle.g_shared.specs.Queues.{new_queue}
use Rattle.g_shared.specs.Cells.{new_cell, Body}
use Rattle.g_border.specs.Readers.{outputs_given}
use Rattle.g_frames.specs.declared.state.Progress.TheVariants as progress
use Rattle.g_frames.specs.Contents as content
use Rattle.g_frames.specs.Contents.{Content, Operation, OnPanel, OnQueue, OnCell, object_step}
use Rattle.g_frames.specs.Program.{cell_object, panel_object}
use Rattle.g_frames.specs.Effects.{Effect, gives, Here, after_step, no_body, on_object}

-- the node is done, and its outputs are what the operation gives
abbrev pub done : Entry → Reply → Effect
done e reply = gives progress.Done (outputs_given e reply.values)

-- an operation on a cell of the panel of the node's own data space
abbrev pub on_own_panel : Here → Entry → PanelOp → Option Effect
on_own_panel h e o = on_object h (panel_object h.program h.frame.space) (OnPanel o) 0 (done e)

-- ---- what a reference names

-- a reference names an object and one of its lives; the null reference names none
abbrev pub object_named : Option Live → Option ℕ
object_named live = option_map (λ l. l.object) live

abbrev pub serial_of : Option Live → ℕ
serial_of live = option_map_or (λ l. l.serial) live 0

abbrev pub content_named : List Content → (otherwise : Content) → Option Live → Content
content_named objects otherwise live = unwrap_or (option_and_then (λ l. slice_get objects l.object) live) otherwise

-- an operation on what a reference names. The null reference stands for an object of its type that is never live, which nothing changes
abbrev pub on_live : Here → Option Live → (never_live : Content) → Operation → Body → (Reply → Effect) → Option Effect
on_live h live never_live o body effect = after_step (object_named live) effect (object_step (content_named h.objects never_live live) o 0 body)

abbrev pub no_queue : (item : Ty) → Content
no_queue t = content.Queue (new_queue 0 t (negsuc 0))

abbrev pub no_cell : Ty → Content
no_cell t = content.Cell (new_cell 0 t)

-- ---- queues and references

abbrev pub input_at : List Value → (k : ℕ) → Value
input_at vs k = or_nothing (slice_get vs k)

-- the operation on a queue of items of a type; what is put in is coerced to it
abbrev pub queue_operation : SharedOp → (serial : ℕ) → (item : Ty) → (put : Value) → Option Operation
queue_operation shared.Enqueue n t v = Some (OnQueue (queue.Enqueue n (coerced v t)))
queue_operation shared.Dequeue n t v = Some (OnQueue (queue.Dequeue n))
queue_operation shared.Release n t v = Some (OnQueue (queue.Release n))
queue_operation shared.Size n t v = Some (OnQueue (queue.Size n))
queue_operation _ n t v = None

abbrev pub cell_operation : SharedOp → (serial : ℕ) → Option Operation
cell_operation shared.DelRef n = Some (OnCell (ref.Delete n))
cell_operation _ n = None

-- an operation by the reference at the first input
abbrev pub by_reference : Here → Entry → SharedOp → List Value → Value-F Value → Option Effect
by_reference h e o vs (Value-F.Queue r) =
    option_and_then (λ operation. on_live h r.at (no_queue r.elem) operation no_body (done e)) (queue_operation o (serial_of r.at) r.elem (input_at vs 1))
by_reference h e o vs (Value-F.Cell r) =
    option_and_then (λ operation. on_live h r.at (no_cell r.elem) operation no_body (done e)) (cell_operation o (serial_of r.at))
by_reference h e o vs _ = None

-- a `newref` makes the reference of its own place
abbrev pub shared_effect : Here → Entry → SharedOp → List Value → Option Effect
shared_effect h e shared.NewRef vs = on_object h (cell_object h.program h.frame.space e.line) (OnCell (ref.Make (input_at vs 0))) 0 (done e)
shared_effect h e o vs = by_reference h e o vs (out-Value (input_at vs 0))
