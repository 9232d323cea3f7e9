-- Plans fit their objects where firings have what they need, and begin iterations only within the limit.
use Rattle.std.proofs.Common.{◌≡◌, ℕ, ◌+◌, Bool, true, false, List, map, refl}
use Rattle.std.specs.Prelude.{Option, Some, None, slice_get, if◌then◌else◌}
use Rattle.std.specs.Option.{option_map, option_and_then}
use Rattle.g_types.specs.declared.ty.Ty.{Ty}
use Rattle.g_values.specs.declared.value.Live.{Live}
use Rattle.g_values.specs.declared.value.Value.{Value, out-Value}
use Rattle.g_values.specs.declared.value.Value.TheOpen.{Value-F}
use Rattle.g_values.specs.Coerce.{coerced}
use Rattle.g_values.specs.Typed.{IsOfType}
use Rattle.g_operations.specs.declared.shared.SharedOp.{SharedOp}
use Rattle.g_operations.specs.declared.shared.SharedOp.TheVariants as shared
use Rattle.g_diagram.specs.declared.hierarchy.Clones.{Clones}
use Rattle.g_diagram.specs.declared.hierarchy.Clones.TheVariants.{NonReentrant, Preallocated, Pool}
use Rattle.g_diagram.specs.declared.panel.PanelItem.{PanelItem}
use Rattle.g_diagram.specs.declared.node.Tunnel.{Tunnel}
use Rattle.g_diagram.specs.Lines.{Wire, Entry, Kind, Const, Apply, Shows, Shared, Obtain, Read, Write, Call, Loop, Case, Sequence, InPlace}
use Rattle.g_typing.specs.Typing.{panel_type}
use Rattle.g_shared.specs.declared.operations.PanelOp.{PanelOp}
use Rattle.g_shared.specs.declared.operations.PanelOp.TheVariants as panel
use Rattle.g_shared.specs.declared.operations.QueueOp.{QueueOp}
use Rattle.g_shared.specs.declared.operations.QueueOp.TheVariants as queue
use Rattle.g_shared.specs.declared.operations.RefOp.{RefOp}
use Rattle.g_shared.specs.declared.operations.RefOp.TheVariants as ref
use Rattle.g_shared.specs.declared.operations.PoolOp.{PoolOp}
use Rattle.g_shared.specs.declared.operations.PoolOp.TheVariants as pool
use Rattle.g_shared.specs.Cells.{CellState, IsRefOp}
use Rattle.g_shared.specs.Queues.{QueueState, IsQueueOp}
use Rattle.g_border.specs.Readers.{value_on}
use Rattle.g_border.specs.Lines.{Reference, reference_in}
use Rattle.g_border.specs.Cases.{coerced_to}
use Rattle.g_frames.specs.declared.state.Progress.{Progress}
use Rattle.g_frames.specs.declared.state.Progress.TheVariants as progress
use Rattle.g_frames.specs.declared.state.Stage.{Stage}
use Rattle.g_frames.specs.declared.state.Stage.TheVariants.{Entered, Opened, Returned, Left}
use Rattle.g_frames.specs.Contents as content
use Rattle.g_frames.specs.Contents.{Content}
use Rattle.g_frames.specs.Program.{FlatVi, vi_at, numbered, queue_object, cell_object, panel_object, pool_object}
use Rattle.g_frames.specs.Panels.{arguments}
use Rattle.g_frames.specs.Effects.{Here}
use Rattle.g_frames.specs.Operations.{input_at}
use Rattle.g_frames.specs.Structures.{is_complete_at}
use Rattle.g_panels.specs.Panel.{WritesProper}
use Rattle.g_objects.specs.declared.operation.Operation.TheVariants as operation
use Rattle.g_objects.specs.Operations.{IsOperation, given_to}
use Rattle.g_effects.specs.declared.effect.Effect.{Effect}
use Rattle.g_effects.specs.declared.plan.Plan.TheVariants as plan
use Rattle.g_effects.specs.Needs.{Needs, FitsQueue, FitsShared, FitsPlaceOf, FitsPlaceBy, FitsPlace}
use Rattle.g_effects.specs.Turns.{loop_plan, case_plan, sequence_plan}
use Rattle.g_effects.specs.Requests.{panel_opens, returns, space_in, begins_by, goes_on, call_plan, by_queue, by_cell, by_reference, shared_plan, placement}
use Rattle.g_effects.specs.Kinds.{panel_cell, place_by, place_at, place_plan, kind_plan}
use Rattle.g_effects.specs.Laws.{PlanFits}

-- ---- operations that fit whatever their objects are

panel_fits : (objects : List Content) (k : ℕ) (o : PanelOp) → WritesProper o → (c : Content) → slice_get objects k ≡ Some c → IsOperation c (operation.OnPanel o)
panel_fits objects k o proper (content.Panel s) is = proper
panel_fits objects k o proper (content.Queue s) is = tt
panel_fits objects k o proper (content.Cell s) is = tt
panel_fits objects k o proper (content.Pool s) is = tt

queue_fits : (objects : List Content) (k : ℕ) (o : QueueOp) → ((q : QueueState) → slice_get objects k ≡ Some (content.Queue q) → IsQueueOp q.item o) →
    (c : Content) → slice_get objects k ≡ Some c → IsOperation c (operation.OnQueue o)
queue_fits objects k o fits (content.Panel s) is = tt
queue_fits objects k o fits (content.Queue s) is = fits s is
queue_fits objects k o fits (content.Cell s) is = tt
queue_fits objects k o fits (content.Pool s) is = tt

cell_fits : (objects : List Content) (k : ℕ) (o : RefOp) → ((s : CellState) → slice_get objects k ≡ Some (content.Cell s) → IsRefOp s.content o) →
    (c : Content) → slice_get objects k ≡ Some c → IsOperation c (operation.OnCell o)
cell_fits objects k o fits (content.Panel s) is = tt
cell_fits objects k o fits (content.Queue s) is = tt
cell_fits objects k o fits (content.Cell s) is = fits s is
cell_fits objects k o fits (content.Pool s) is = tt

pool_fits : (objects : List Content) (k : ℕ) (o : PoolOp) → (c : Content) → slice_get objects k ≡ Some c → IsOperation c (operation.OnPool o)
pool_fits objects k o (content.Panel s) is = tt
pool_fits objects k o (content.Queue s) is = tt
pool_fits objects k o (content.Cell s) is = tt
pool_fits objects k o (content.Pool s) is = tt

effect_fits : (objects : List Content) (m : Option Effect) → PlanFits objects (option_map plan.Effect m)
effect_fits objects None = tt
effect_fits objects (Some x) = tt

-- ---- calls

opens_fits : (h : Here) (inputs : List Wire) (v clone : ℕ) (items : List PanelItem) (space : Option ℕ) →
    PlanFits h.objects (option_map plan.Request (option_map (panel_opens h inputs v clone items) space))
opens_fits h inputs v clone items None = tt
opens_fits h inputs v clone items (Some space) = panel_fits h.objects (panel_object h.program space) (panel.Enter (arguments h.outer inputs items)) tt

returns_fits : (h : Here) (clones : Clones) (b : Bool) (space : Option ℕ) →
    PlanFits h.objects (option_map plan.Request (if b then option_map (returns h clones) space else None))
returns_fits h clones true None = tt
returns_fits h clones true (Some space) = panel_fits h.objects (panel_object h.program space) panel.Leave tt
returns_fits h clones false space = tt

begun_fits : (h : Here) (l : ℕ) (inputs : List Wire) (v : ℕ) (items : List PanelItem) (clones first : Clones) (choice : Option ℕ) →
    PlanFits h.objects (option_map plan.Request (begins_by first h l inputs v items clones choice))
begun_fits h l inputs v items clones NonReentrant None = pool_fits h.objects (pool_object h.program v) pool.Enter
begun_fits h l inputs v items clones NonReentrant (Some k) = tt
begun_fits h l inputs v items clones Preallocated None = opens_fits h inputs v 0 items (space_in h l v 0 clones)
begun_fits h l inputs v items clones Preallocated (Some k) = tt
begun_fits h l inputs v items clones (Pool n) None = tt
begun_fits h l inputs v items clones (Pool n) (Some k) = pool_fits h.objects (pool_object h.program v) pool.Enter

gone_on_fits : (h : Here) (l : ℕ) (inputs : List Wire) (v clone : ℕ) (items : List PanelItem) (clones : Clones) (stage : Stage) →
    PlanFits h.objects (option_map plan.Request (goes_on h l inputs v clone items clones stage))
gone_on_fits h l inputs v clone items clones Entered = opens_fits h inputs v clone items (space_in h l v clone clones)
gone_on_fits h l inputs v clone items clones (Opened k) = returns_fits h clones (is_complete_at h k) (space_in h l v clone clones)
gone_on_fits h l inputs v clone items clones (Returned k) = pool_fits h.objects (pool_object h.program v) (pool.Leave clone)
gone_on_fits h l inputs v clone items clones (Left k) = tt

call_fits : (h : Here) (l : ℕ) (inputs : List Wire) (choice : Option ℕ) (p : Progress) (v : ℕ) (items : List PanelItem) (clones : Clones) →
    PlanFits h.objects (option_map plan.Request (call_plan h l inputs choice p v items clones))
call_fits h l inputs choice progress.Idle v items clones = begun_fits h l inputs v items clones clones choice
call_fits h l inputs choice progress.Done v items clones = tt
call_fits h l inputs choice (progress.Loop vs ks ended) v items clones = tt
call_fits h l inputs choice (progress.Case k ended) v items clones = tt
call_fits h l inputs choice (progress.Sequence ks ended) v items clones = tt
call_fits h l inputs None (progress.Call clone stage) v items clones = gone_on_fits h l inputs v clone items clones stage
call_fits h l inputs (Some k) (progress.Call clone stage) v items clones = tt

called_fits : (h : Here) (l : ℕ) (inputs : List Wire) (choice : Option ℕ) (p : Progress) (v : ℕ) (m : Option FlatVi) →
    PlanFits h.objects (option_and_then (λ called. option_map plan.Request (call_plan h l inputs choice p v called.panel called.clones)) m)
called_fits h l inputs choice p v None = tt
called_fits h l inputs choice p v (Some called) = call_fits h l inputs choice p v called.panel called.clones

-- ---- queues and references

by_queue_fits : (objects : List Content) (e : Entry) (o : SharedOp) (put : Value) (t : Ty) (at : Option Live) →
    (o ≡ shared.Enqueue → (l : Live) (q : QueueState) → at ≡ Some l → slice_get objects l.object ≡ Some (content.Queue q) → IsOfType q.item (coerced put t)) →
    PlanFits objects (by_queue e o put t at)
by_queue_fits objects e shared.Enqueue put t None fits = tt
by_queue_fits objects e shared.Dequeue put t None fits = tt
by_queue_fits objects e shared.Release put t None fits = tt
by_queue_fits objects e shared.Size put t None fits = tt
by_queue_fits objects e shared.NewRef put t None fits = tt
by_queue_fits objects e shared.DelRef put t None fits = tt
by_queue_fits objects e shared.Enqueue put t (Some l) fits = queue_fits objects l.object (queue.Enqueue l.serial (coerced put t)) (λ q is. fits refl l q refl is)
by_queue_fits objects e shared.Dequeue put t (Some l) fits = queue_fits objects l.object (queue.Dequeue l.serial) (λ q is. tt)
by_queue_fits objects e shared.Release put t (Some l) fits = queue_fits objects l.object (queue.Release l.serial) (λ q is. tt)
by_queue_fits objects e shared.Size put t (Some l) fits = queue_fits objects l.object (queue.Size l.serial) (λ q is. tt)
by_queue_fits objects e shared.NewRef put t (Some l) fits = tt
by_queue_fits objects e shared.DelRef put t (Some l) fits = tt

by_cell_fits : (objects : List Content) (e : Entry) (o : SharedOp) (t : Ty) (at : Option Live) → PlanFits objects (by_cell e o t at)
by_cell_fits objects e shared.Enqueue t None = tt
by_cell_fits objects e shared.Dequeue t None = tt
by_cell_fits objects e shared.Release t None = tt
by_cell_fits objects e shared.Size t None = tt
by_cell_fits objects e shared.NewRef t None = tt
by_cell_fits objects e shared.DelRef t None = tt
by_cell_fits objects e shared.Enqueue t (Some l) = tt
by_cell_fits objects e shared.Dequeue t (Some l) = tt
by_cell_fits objects e shared.Release t (Some l) = tt
by_cell_fits objects e shared.Size t (Some l) = tt
by_cell_fits objects e shared.NewRef t (Some l) = tt
by_cell_fits objects e shared.DelRef t (Some l) = cell_fits objects l.object (ref.Delete l.serial) (λ s is. tt)

reference_fits : (objects : List Content) (e : Entry) (o : SharedOp) (put : Value) (v : Value-F Value) → (o ≡ shared.Enqueue → FitsQueue objects put v) →
    PlanFits objects (by_reference e o put v)
reference_fits objects e o put (Value-F.Num x) fits = tt
reference_fits objects e o put (Value-F.Bool b) fits = tt
reference_fits objects e o put (Value-F.Str s) fits = tt
reference_fits objects e o put (Value-F.Nums xs) fits = tt
reference_fits objects e o put (Value-F.Arr xs) fits = tt
reference_fits objects e o put (Value-F.Cluster ws) fits = tt
reference_fits objects e o put (Value-F.Queue r) fits = by_queue_fits objects e o put r.elem r.at fits
reference_fits objects e o put (Value-F.Cell r) fits = by_cell_fits objects e o r.elem r.at

shared_fits : (h : Here) (e : Entry) (o : SharedOp) (vs : List Value) → FitsShared h e.line o vs → PlanFits h.objects (shared_plan h e o vs)
shared_fits h e shared.NewRef vs fits = cell_fits h.objects (cell_object h.program h.frame.space e.line) (ref.Make (input_at vs 0)) (fits.cell refl)
shared_fits h e shared.Enqueue vs fits = reference_fits h.objects e shared.Enqueue (input_at vs 1) (out-Value (input_at vs 0)) fits.queue
shared_fits h e shared.Dequeue vs fits = reference_fits h.objects e shared.Dequeue (input_at vs 1) (out-Value (input_at vs 0)) fits.queue
shared_fits h e shared.Release vs fits = reference_fits h.objects e shared.Release (input_at vs 1) (out-Value (input_at vs 0)) fits.queue
shared_fits h e shared.Size vs fits = reference_fits h.objects e shared.Size (input_at vs 1) (out-Value (input_at vs 0)) fits.queue
shared_fits h e shared.DelRef vs fits = reference_fits h.objects e shared.DelRef (input_at vs 1) (out-Value (input_at vs 0)) fits.queue

-- ---- structures in place

live_fits : (h : Here) (e : Entry) (lines : List Tunnel) (body finish : ℕ) (r : Reference) (t : Ty) (l : Live) (m : Option Content) → slice_get h.objects l.object ≡ m →
    FitsPlaceOf h e lines body finish r t l →
    PlanFits h.objects (option_map (λ v. plan.Placement (placement h e lines body finish r t l v)) (option_and_then (λ c. given_to c l.serial) m))
live_fits h e lines body finish r t l None is fits = tt
live_fits h e lines body finish r t l (Some (content.Panel s)) is fits = tt
live_fits h e lines body finish r t l (Some (content.Queue s)) is fits = tt
live_fits h e lines body finish r t l (Some (content.Pool s)) is fits = tt
live_fits h e lines body finish r t l (Some (content.Cell s)) is fits = record { content = content.Cell s; is = is; takes = fits.value s is; outputs = fits.outputs s is }

place_by_fits : (h : Here) (e : Entry) (lines : List Tunnel) (body finish : ℕ) (r : Reference) (t : Ty) (at : Option Live) →
    ((l : Live) → at ≡ Some l → FitsPlaceOf h e lines body finish r t l) → PlanFits h.objects (place_by h e lines body finish r t at)
place_by_fits h e lines body finish r t None fits = tt
place_by_fits h e lines body finish r t (Some l) fits = live_fits h e lines body finish r t l (slice_get h.objects l.object) refl (fits l refl)

place_at_fits : (h : Here) (e : Entry) (lines : List Tunnel) (body finish : ℕ) (r : Reference) (v : Value-F Value) → FitsPlaceBy h e lines body finish r v →
    PlanFits h.objects (place_at h e lines body finish r v)
place_at_fits h e lines body finish r (Value-F.Num x) fits = tt
place_at_fits h e lines body finish r (Value-F.Bool b) fits = tt
place_at_fits h e lines body finish r (Value-F.Str s) fits = tt
place_at_fits h e lines body finish r (Value-F.Nums xs) fits = tt
place_at_fits h e lines body finish r (Value-F.Arr xs) fits = tt
place_at_fits h e lines body finish r (Value-F.Cluster ws) fits = tt
place_at_fits h e lines body finish r (Value-F.Queue q) fits = tt
place_at_fits h e lines body finish r (Value-F.Cell c) fits = place_by_fits h e lines body finish r c.elem c.at fits

place_fits : (h : Here) (e : Entry) (lines : List Tunnel) (body finish : ℕ) (m : Option Reference) → FitsPlace h e lines body finish m →
    PlanFits h.objects (place_plan h e lines body finish m)
place_fits h e lines body finish None fits = tt
place_fits h e lines body finish (Some r) fits = place_at_fits h e lines body finish r (out-Value (value_on h.outer r.from)) fits

-- ---- all kinds

pub plan_fits : (h : Here) (e : Entry) (choice : Option ℕ) (k : Kind) (p : Progress) → Needs h e k → PlanFits h.objects (kind_plan h e choice k p)
plan_fits h e None (Const t literal out) p needs = tt
plan_fits h e None (Apply op inputs outputs) p needs = tt
plan_fits h e None (Shows name t w) p needs =
    panel_fits h.objects (panel_object h.program h.frame.space) (panel.Write (panel_cell h name) (coerced (value_on h.outer w) t)) needs
plan_fits h e None (Shared op inputs outputs) p needs = shared_fits h e op (map (value_on h.outer) inputs) needs
plan_fits h e None (Obtain name size item out) p needs = queue_fits h.objects (queue_object h.program name) queue.Obtain (λ q is. tt)
plan_fits h e None (Read name out) p needs = panel_fits h.objects (panel_object h.program h.frame.space) (panel.Read (panel_cell h name)) tt
plan_fits h e None (Write name w) p needs =
    panel_fits h.objects (panel_object h.program h.frame.space) (panel.Write (panel_cell h name) (coerced_to (panel_type h.vi.panel name) (value_on h.outer w))) needs
plan_fits h e choice (Call name inputs outputs) p needs =
    called_fits h e.line inputs choice p (numbered h.program.vis name) (vi_at h.program (numbered h.program.vis name))
plan_fits h e None (Loop count stop i lines body) p needs = effect_fits h.objects (loop_plan h e.line count stop i lines body p)
plan_fits h e None (Case w lines arms) p needs = effect_fits h.objects (case_plan h e.line w lines arms p)
plan_fits h e None (Sequence parts) p needs = effect_fits h.objects (sequence_plan h parts p)
plan_fits h e None (InPlace lines body finish) p needs = place_fits h e lines body finish (reference_in (e.line + 1) lines) needs
plan_fits h e (Some k) (Const t literal out) p needs = tt
plan_fits h e (Some k) (Apply op inputs outputs) p needs = tt
plan_fits h e (Some k) (Shows name t w) p needs = tt
plan_fits h e (Some k) (Shared op inputs outputs) p needs = tt
plan_fits h e (Some k) (Obtain name size item out) p needs = tt
plan_fits h e (Some k) (Read name out) p needs = tt
plan_fits h e (Some k) (Write name w) p needs = tt
plan_fits h e (Some k) (Loop count stop i lines body) p needs = tt
plan_fits h e (Some k) (Case w lines arms) p needs = tt
plan_fits h e (Some k) (Sequence parts) p needs = tt
plan_fits h e (Some k) (InPlace lines body finish) p needs = tt
