-- The effects of calls and of operations on queues and references are those of the operations that they ask for.
use Rattle.std.proofs.Common.{◌≡◌, ℕ, Bool, true, false, List, [], refl, ap}
use Rattle.std.specs.Prelude.{Option, Some, None, is_some, is_none, slice_get, if◌then◌else◌}
use Rattle.std.specs.Option.{option_map, option_and_then, option_map_or, unwrap_or}
use Rattle.g_types.specs.declared.ty.Ty.{Ty}
use Rattle.g_values.specs.declared.value.Live.{Live}
use Rattle.g_values.specs.declared.value.Value.{Value, out-Value}
use Rattle.g_values.specs.declared.value.Value.TheOpen.{Value-F}
use Rattle.g_values.specs.Coerce.{coerced}
use Rattle.g_operations.specs.declared.shared.SharedOp.{SharedOp}
use Rattle.g_operations.specs.declared.shared.SharedOp.TheVariants as shared
use Rattle.g_diagram.specs.declared.hierarchy.Clones.{Clones}
use Rattle.g_diagram.specs.declared.hierarchy.Clones.TheVariants.{NonReentrant, Preallocated, Pool}
use Rattle.g_diagram.specs.Lines.{Wire, Entry}
use Rattle.g_shared.specs.declared.operations.PanelOp.TheVariants as panel
use Rattle.g_shared.specs.declared.operations.QueueOp.TheVariants as queue
use Rattle.g_shared.specs.declared.operations.RefOp.TheVariants as ref
use Rattle.g_border.specs.Readers.{outputs_given}
use Rattle.g_frames.specs.declared.state.Progress.{Progress}
use Rattle.g_frames.specs.declared.state.Progress.TheVariants as progress
use Rattle.g_frames.specs.declared.state.Stage.{Stage}
use Rattle.g_frames.specs.declared.state.Stage.TheVariants.{Entered, Opened, Returned, Left}
use Rattle.g_frames.specs.Contents as content
use Rattle.g_frames.specs.Contents.{Content, object_step}
use Rattle.g_frames.specs.Program.{FlatVi, vi_at, takes_clone, panel_object}
use Rattle.g_frames.specs.Panels.{arguments, controls_given}
use Rattle.g_frames.specs.Effects as effects
use Rattle.g_frames.specs.Effects.{Here, next_frame, guard, after_step, no_body, on_object}
use Rattle.g_frames.specs.Structures.{is_complete_at}
use Rattle.g_frames.specs.Operations as operations
use Rattle.g_frames.specs.Operations.{on_live, serial_of, no_queue, no_cell, input_at, shared_effect}
use Rattle.g_frames.specs.Calls as calls
use Rattle.g_frames.specs.Calls.{space_of_call, call_effect}
use Rattle.g_objects.specs.declared.operation.Operation.TheVariants as operation
use Rattle.g_effects.specs.declared.plan.Request.{Request}
use Rattle.g_effects.specs.declared.plan.Then.TheVariants as follow
use Rattle.g_effects.specs.Needs.{NamesObject, NamesObjectIn}
use Rattle.g_effects.specs.Requests.{requested, planned, request, panel_opens, returns, no_choice, begins_by, goes_on, call_plan, by_queue, by_cell, by_reference, shared_plan}

-- ---- calls

opens_is : (h : Here) (e : Entry) (p : Progress) (inputs : List Wire) (v clone : ℕ) (called : FlatVi) → vi_at h.program v ≡ Some called → (space : Option ℕ) →
    option_and_then (requested h e p) (option_map (panel_opens h inputs v clone called.panel) space) ≡ option_and_then (calls.panel_opens h inputs v clone called) space
opens_is h e p inputs v clone called is None = refl
opens_is h e p inputs v clone called is (Some space) =
    ap (λ (m : Option FlatVi). on_object h (panel_object h.program space) (content.OnPanel (panel.Enter (arguments h.outer inputs called.panel))) 0
    (λ reply. effects.opens (progress.Call clone (Opened (next_frame h)))
    (record { vi = v; space = space; diagram = 0; iteration = 0; gives = controls_given 1 (option_map_or (λ vi. vi.panel) m []) reply.values }))) is

begun_is : (h : Here) (e : Entry) (p : Progress) (inputs : List Wire) (v : ℕ) (called : FlatVi) → vi_at h.program v ≡ Some called → (clones : Clones) (choice : Option ℕ) →
    option_and_then (requested h e p) (begins_by clones h e.line inputs v called.panel called.clones choice) ≡ calls.call_begins h e inputs v called clones choice
begun_is h e p inputs v called is NonReentrant None = refl
begun_is h e p inputs v called is NonReentrant (Some k) = refl
begun_is h e p inputs v called is Preallocated None = opens_is h e p inputs v 0 called is (space_of_call h e v 0 called)
begun_is h e p inputs v called is Preallocated (Some k) = refl
begun_is h e p inputs v called is (Pool n) None = refl
begun_is h e p inputs v called is (Pool n) (Some k) = refl

returned_by : (h : Here) (e : Entry) (clone k space : ℕ) (b : Bool) →
    requested h e (progress.Call clone (Opened k)) (request (panel_object h.program space) (operation.OnPanel panel.Leave) 0 (if b then follow.CallReturns else follow.CallReturnsLast))
    ≡ on_object h (panel_object h.program space) (content.OnPanel panel.Leave) 0 (λ reply. effects.gives (progress.Call clone (if b then Returned k else Left k)) (outputs_given e reply.values))
returned_by h e clone k space true = refl
returned_by h e clone k space false = refl

returned_is : (h : Here) (e : Entry) (v clone k : ℕ) (called : FlatVi) (b : Bool) (space : Option ℕ) →
    option_and_then (requested h e (progress.Call clone (Opened k))) (if b then option_map (returns h called.clones) space else None)
    ≡ option_and_then (λ s. guard b (on_object h (panel_object h.program s) (content.OnPanel panel.Leave) 0 (λ reply. effects.gives (progress.Call clone (calls.stage_after called.clones k)) (outputs_given e reply.values)))) space
returned_is h e v clone k called true None = refl
returned_is h e v clone k called false None = refl
returned_is h e v clone k called true (Some space) = returned_by h e clone k space (takes_clone called.clones)
returned_is h e v clone k called false (Some space) = refl

gone_on_is : (h : Here) (e : Entry) (inputs : List Wire) (v clone : ℕ) (called : FlatVi) → vi_at h.program v ≡ Some called → (stage : Stage) →
    option_and_then (requested h e (progress.Call clone stage)) (goes_on h e.line inputs v clone called.panel called.clones stage) ≡ calls.call_goes_on h e inputs v clone called stage
gone_on_is h e inputs v clone called is Entered = opens_is h e (progress.Call clone Entered) inputs v clone called is (space_of_call h e v clone called)
gone_on_is h e inputs v clone called is (Opened k) = returned_is h e v clone k called (is_complete_at h k) (space_of_call h e v clone called)
gone_on_is h e inputs v clone called is (Returned k) = refl
gone_on_is h e inputs v clone called is (Left k) = refl

chosen_is : (f : Request → Option effects.Effect) (choice : Option ℕ) (m : Option Request) (x : Option effects.Effect) → option_and_then f m ≡ x →
    option_and_then f (no_choice choice m) ≡ guard (is_none choice) x
chosen_is f None m x is = is
chosen_is f (Some k) m x is = refl

pub call_is : (h : Here) (e : Entry) (inputs : List Wire) (choice : Option ℕ) (p : Progress) (v : ℕ) (called : FlatVi) → vi_at h.program v ≡ Some called →
    option_and_then (requested h e p) (call_plan h e.line inputs choice p v called.panel called.clones) ≡ call_effect h e inputs choice p v called
call_is h e inputs choice progress.Idle v called is = begun_is h e progress.Idle inputs v called is called.clones choice
call_is h e inputs choice progress.Done v called is = refl
call_is h e inputs choice (progress.Loop vs ks ended) v called is = refl
call_is h e inputs choice (progress.Case k ended) v called is = refl
call_is h e inputs choice (progress.Sequence ks ended) v called is = refl
call_is h e inputs choice (progress.Call clone stage) v called is =
    chosen_is (requested h e (progress.Call clone stage)) choice (goes_on h e.line inputs v clone called.panel called.clones stage)
    (calls.call_goes_on h e inputs v clone called stage) (gone_on_is h e inputs v clone called is stage)

-- ---- queues and references

live_is : {A : Type 0} (f : Content → Option A) (never : Content) (m : Option Content) → is_some m ≡ true → option_and_then f m ≡ f (unwrap_or m never)
live_is f never None e = absurd cc
live_is f never (Some c) e = refl

on_live_is : (h : Here) (e : Entry) (l : Live) (never : Content) (o : content.Operation) → NamesObject h.objects (Some l) →
    on_object h l.object o 0 (operations.done e) ≡ on_live h (Some l) never o no_body (operations.done e)
on_live_is h e l never o names =
    ap (after_step (Some l.object) (operations.done e)) (live_is (λ c. object_step c o 0 no_body) never (slice_get h.objects l.object) names)

queue_is : (h : Here) (e : Entry) (p : Progress) (o : SharedOp) (put : Value) (t : Ty) (at : Option Live) → NamesObject h.objects at →
    option_and_then (planned h e p) (by_queue e o put t at)
    ≡ option_and_then (λ operation. on_live h at (no_queue t) operation no_body (operations.done e)) (operations.queue_operation o (serial_of at) t put)
queue_is h e p shared.Enqueue put t None names = refl
queue_is h e p shared.Dequeue put t None names = refl
queue_is h e p shared.Release put t None names = refl
queue_is h e p shared.Size put t None names = refl
queue_is h e p shared.NewRef put t None names = refl
queue_is h e p shared.DelRef put t None names = refl
queue_is h e p shared.Enqueue put t (Some l) names = on_live_is h e l (no_queue t) (content.OnQueue (queue.Enqueue l.serial (coerced put t))) names
queue_is h e p shared.Dequeue put t (Some l) names = on_live_is h e l (no_queue t) (content.OnQueue (queue.Dequeue l.serial)) names
queue_is h e p shared.Release put t (Some l) names = on_live_is h e l (no_queue t) (content.OnQueue (queue.Release l.serial)) names
queue_is h e p shared.Size put t (Some l) names = on_live_is h e l (no_queue t) (content.OnQueue (queue.Size l.serial)) names
queue_is h e p shared.NewRef put t (Some l) names = refl
queue_is h e p shared.DelRef put t (Some l) names = refl

cell_is : (h : Here) (e : Entry) (p : Progress) (o : SharedOp) (t : Ty) (at : Option Live) → NamesObject h.objects at →
    option_and_then (planned h e p) (by_cell e o t at)
    ≡ option_and_then (λ operation. on_live h at (no_cell t) operation no_body (operations.done e)) (operations.cell_operation o (serial_of at))
cell_is h e p shared.Enqueue t None names = refl
cell_is h e p shared.Dequeue t None names = refl
cell_is h e p shared.Release t None names = refl
cell_is h e p shared.Size t None names = refl
cell_is h e p shared.NewRef t None names = refl
cell_is h e p shared.DelRef t None names = refl
cell_is h e p shared.Enqueue t (Some l) names = refl
cell_is h e p shared.Dequeue t (Some l) names = refl
cell_is h e p shared.Release t (Some l) names = refl
cell_is h e p shared.Size t (Some l) names = refl
cell_is h e p shared.NewRef t (Some l) names = refl
cell_is h e p shared.DelRef t (Some l) names = on_live_is h e l (no_cell t) (content.OnCell (ref.Delete l.serial)) names

reference_is : (h : Here) (e : Entry) (p : Progress) (o : SharedOp) (vs : List Value) (v : Value-F Value) → NamesObjectIn h.objects v →
    option_and_then (planned h e p) (by_reference e o (input_at vs 1) v) ≡ operations.by_reference h e o vs v
reference_is h e p o vs (Value-F.Num x) names = refl
reference_is h e p o vs (Value-F.Bool b) names = refl
reference_is h e p o vs (Value-F.Str s) names = refl
reference_is h e p o vs (Value-F.Nums xs) names = refl
reference_is h e p o vs (Value-F.Arr xs) names = refl
reference_is h e p o vs (Value-F.Cluster ws) names = refl
reference_is h e p o vs (Value-F.Queue r) names = queue_is h e p o (input_at vs 1) r.elem r.at names
reference_is h e p o vs (Value-F.Cell r) names = cell_is h e p o r.elem r.at names

pub shared_is : (h : Here) (e : Entry) (p : Progress) (o : SharedOp) (vs : List Value) → NamesObjectIn h.objects (out-Value (input_at vs 0)) →
    option_and_then (planned h e p) (shared_plan h e o vs) ≡ shared_effect h e o vs
shared_is h e p shared.Enqueue vs names = reference_is h e p shared.Enqueue vs (out-Value (input_at vs 0)) names
shared_is h e p shared.Dequeue vs names = reference_is h e p shared.Dequeue vs (out-Value (input_at vs 0)) names
shared_is h e p shared.Release vs names = reference_is h e p shared.Release vs (out-Value (input_at vs 0)) names
shared_is h e p shared.Size vs names = reference_is h e p shared.Size vs (out-Value (input_at vs 0)) names
shared_is h e p shared.NewRef vs names = refl
shared_is h e p shared.DelRef vs names = reference_is h e p shared.DelRef vs (out-Value (input_at vs 0)) names
