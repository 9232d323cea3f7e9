-- What firings do with shared objects: the operation that each asks for, and the effect that follows it.
use Rattle.std.specs.Prelude.{ℕ, ◌+◌, ◌<◌, List, [], ◌∷◌, ◌++◌, Option, Some, None, slice_get, if◌then◌else◌}
use Rattle.std.specs.Option.{option_map, option_and_then}
use Rattle.g_types.specs.declared.ty.Ty.{Ty}
use Rattle.g_values.specs.declared.value.Live.{Live}
use Rattle.g_values.specs.declared.value.Value.{Value, out-Value}
use Rattle.g_values.specs.declared.value.Value.TheOpen.{Value-F}
use Rattle.g_values.specs.Coerce.{coerced}
use Rattle.g_values.specs.Default.{default}
use Rattle.g_operations.specs.declared.shared.SharedOp.{SharedOp}
use Rattle.g_operations.specs.declared.shared.SharedOp.TheVariants as shared
use Rattle.g_diagram.specs.declared.hierarchy.Clones.{Clones}
use Rattle.g_diagram.specs.declared.hierarchy.Clones.TheVariants.{NonReentrant, Preallocated, Pool}
use Rattle.g_diagram.specs.declared.panel.PanelItem.{PanelItem}
use Rattle.g_diagram.specs.declared.node.Tunnel.{Tunnel}
use Rattle.g_diagram.specs.Lines.{Wire, Entry}
use Rattle.g_shared.specs.declared.operations.PanelOp.TheVariants as panel
use Rattle.g_shared.specs.declared.operations.QueueOp.TheVariants as queue
use Rattle.g_shared.specs.declared.operations.RefOp.TheVariants as ref
use Rattle.g_shared.specs.declared.operations.PoolOp.TheVariants as pool
use Rattle.g_shared.specs.declared.reply.Reply.{Reply}
use Rattle.g_shared.specs.Outcome as outcome
use Rattle.g_border.specs.declared.place.WireSource.{WireSource}
use Rattle.g_border.specs.Readers.{value_on, outputs_given, paired}
use Rattle.g_border.specs.Lines.{Reference, other_places}
use Rattle.g_frames.specs.declared.state.Progress.{Progress}
use Rattle.g_frames.specs.declared.state.Progress.TheVariants as progress
use Rattle.g_frames.specs.declared.state.Stage.{Stage}
use Rattle.g_frames.specs.declared.state.Stage.TheVariants.{Entered, Opened, Returned, Left}
use Rattle.g_frames.specs.Contents as content
use Rattle.g_frames.specs.Contents.{object_step}
use Rattle.g_frames.specs.Program.{takes_clone, called_space, cell_object, panel_object, pool_object}
use Rattle.g_frames.specs.Panels.{arguments, controls_given}
use Rattle.g_frames.specs.State.{panel_items}
use Rattle.g_frames.specs.Effects as effects
use Rattle.g_frames.specs.Effects.{Here, next_frame, after_step, on_object}
use Rattle.g_frames.specs.Operations.{input_at}
use Rattle.g_frames.specs.Structures.{is_complete_at}
use Rattle.g_frames.specs.InPlace.{place_body}
use Rattle.g_objects.specs.declared.operation.Operation.{Operation}
use Rattle.g_objects.specs.declared.operation.Operation.TheVariants as operation
use Rattle.g_objects.specs.Operations.{operation_of}
use Rattle.g_effects.specs.declared.advance.Advance.TheVariants as step
use Rattle.g_effects.specs.declared.effect.Effect.{Effect}
use Rattle.g_effects.specs.declared.effect.Opening.{Opening}
use Rattle.g_effects.specs.Effects.{seen, gives_with, opens_with}
use Rattle.g_effects.specs.Structures.{inside}
use Rattle.g_effects.specs.declared.plan.Then.{Then}
use Rattle.g_effects.specs.declared.plan.Then.TheVariants as follow
use Rattle.g_effects.specs.declared.plan.Request.{Request}
use Rattle.g_effects.specs.declared.plan.Placement.{Placement}
use Rattle.g_effects.specs.declared.plan.Plan.{Plan}
use Rattle.g_effects.specs.declared.plan.Plan.TheVariants as plan

-- ---- the effect of a plan

-- the clone that an enter took has a small number
abbrev pub IsClone : Then → Reply → Type 0
IsClone follow.CallEnters reply = reply.choice < 64
IsClone _ reply = Unit {0}

-- the frame that opens with a panel
abbrev pub panel_frame : Here → (vi space : ℕ) → List Value → Opening
panel_frame h v space vs = inside v space 0 0 (controls_given 1 (panel_items h.program v) vs)

-- the effect after an operation that was done
abbrev pub after : Here → Entry → Then → Reply → Effect
after h e follow.Done reply = gives_with step.Done (outputs_given e reply.values)
after h e follow.CallEnters reply = gives_with (step.CallEnters reply.choice) []
after h e (follow.CallOpens v clone space) reply =
    opens_with (step.CallOpens clone) (panel_frame h v space reply.values)
after h e follow.CallReturns reply = gives_with step.CallReturns (outputs_given e reply.values)
after h e follow.CallReturnsLast reply = gives_with step.CallLeaves (outputs_given e reply.values)
after h e follow.CallLeaves reply = gives_with step.CallLeaves []

-- of an operation, where its object can do it
abbrev pub requested : Here → Entry → Progress → Request → Option effects.Effect
requested h e old q = on_object h q.object (operation_of q.operation) q.choice (λ reply. seen old (next_frame h) (after h e q.follow reply))

-- the outputs of a structure in place: the same reference, what its other lines give, and the code
abbrev pub place_given : Here → Entry → List Tunnel → Reference → Reply → Effect
place_given h e lines r reply =
    gives_with step.Done ((r.same, value_on h.outer r.from) ∷ paired (other_places (e.line + 1) lines ++ r.code ∷ []) reply.values)

-- of a body in place that made a value and outputs
abbrev pub place_effect : (same : WireSource × Value) → List WireSource → Reply → Effect
place_effect same places reply = gives_with step.Done (same ∷ paired places reply.values)

abbrev pub after_place : Placement → Reply → Effect
after_place q reply = place_effect q.same q.places reply

abbrev pub placed : Here → Progress → Placement → Option effects.Effect
placed h old q =
    after_step (Some q.object) (λ reply. seen old (next_frame h) (after_place q reply))
    (option_and_then (λ c. object_step c (content.InPlace q.serial []) 0 (λ v vs. (q.value, q.outputs))) (slice_get h.objects q.object))

abbrev pub planned : Here → Entry → Progress → Plan → Option effects.Effect
planned h e old (plan.Effect x) = Some (seen old (next_frame h) x)
planned h e old (plan.Request q) = requested h e old q
planned h e old (plan.Placement q) = placed h old q

-- ---- operations on shared objects

abbrev pub request : (object : ℕ) → Operation → (choice : ℕ) → Then → Request
request k o choice next = record { object = k; operation = o; choice = choice; follow = next }

abbrev pub enters : Here → (vi clone : ℕ) → Request
enters h v k = request (pool_object h.program v) (operation.OnPool pool.Enter) k follow.CallEnters

abbrev pub panel_opens : Here → (inputs : List Wire) → (vi clone : ℕ) → List PanelItem → (space : ℕ) → Request
panel_opens h inputs v clone items space =
    request (panel_object h.program space) (operation.OnPanel (panel.Enter (arguments h.outer inputs items))) 0 (follow.CallOpens v clone space)

abbrev pub returns : Here → Clones → (space : ℕ) → Request
returns h clones space =
    request (panel_object h.program space) (operation.OnPanel panel.Leave) 0 (if takes_clone clones then follow.CallReturns else follow.CallReturnsLast)

abbrev pub leaves : Here → (vi clone : ℕ) → Request
leaves h v clone = request (pool_object h.program v) (operation.OnPool (pool.Leave clone)) 0 follow.CallLeaves

abbrev pub no_choice : Option ℕ → Option Request → Option Request
no_choice None q = q
no_choice (Some k) q = None

-- the data space that a clone of a call line is
abbrev pub space_in : Here → (line vi clone : ℕ) → Clones → Option ℕ
space_in h l v clone clones = called_space h.program clones v h.frame.space l clone

-- by the VI's clones, which stand twice: once to be told apart
abbrev pub begins_by : Clones → Here → (line : ℕ) → (inputs : List Wire) → (vi : ℕ) → List PanelItem → Clones → (choice : Option ℕ) → Option Request
begins_by NonReentrant h l inputs v items clones choice = no_choice choice (Some (enters h v 0))
begins_by Preallocated h l inputs v items clones choice = no_choice choice (option_map (panel_opens h inputs v 0 items) (space_in h l v 0 clones))
begins_by (Pool n) h l inputs v items clones choice = option_map (enters h v) choice

abbrev pub begins : Here → (line : ℕ) → (inputs : List Wire) → (vi : ℕ) → List PanelItem → Clones → (choice : Option ℕ) → Option Request
begins h l inputs v items clones choice = begins_by clones h l inputs v items clones choice

abbrev pub frame_returns : Here → (line vi clone : ℕ) → Clones → (frame : ℕ) → Option Request
frame_returns h l v clone clones k = if is_complete_at h k then option_map (returns h clones) (space_in h l v clone clones) else None

abbrev pub goes_on : Here → (line : ℕ) → (inputs : List Wire) → (vi clone : ℕ) → List PanelItem → Clones → Stage → Option Request
goes_on h l inputs v clone items clones Entered = option_map (panel_opens h inputs v clone items) (space_in h l v clone clones)
goes_on h l inputs v clone items clones (Opened k) = frame_returns h l v clone clones k
goes_on h l inputs v clone items clones (Returned k) = Some (leaves h v clone)
goes_on h l inputs v clone items clones (Left k) = None

abbrev pub call_plan : Here → (line : ℕ) → (inputs : List Wire) → (choice : Option ℕ) → Progress → (vi : ℕ) → List PanelItem → Clones → Option Request
call_plan h l inputs choice progress.Idle v items clones = begins h l inputs v items clones choice
call_plan h l inputs choice (progress.Call clone stage) v items clones = no_choice choice (goes_on h l inputs v clone items clones stage)
call_plan h l inputs choice progress.Done v items clones = None
call_plan h l inputs choice (progress.Loop vs ks ended) v items clones = None
call_plan h l inputs choice (progress.Case k ended) v items clones = None
call_plan h l inputs choice (progress.Sequence ks ended) v items clones = None

-- ---- queues and references

abbrev pub one : Value → List Value
one v = v ∷ []

abbrev pub two : (first second : Value) → List Value
two v w = v ∷ w ∷ []

-- what an operation gives by the null reference to a queue of items of a type, and to a value of a type
abbrev pub of_no_queue : SharedOp → (item : Ty) → Option (List Value)
of_no_queue shared.Enqueue t = Some (one outcome.not_live)
of_no_queue shared.Dequeue t = Some (two (default t) outcome.not_live)
of_no_queue shared.Release t = Some (one outcome.not_live)
of_no_queue shared.Size t = Some (two (outcome.count 0) outcome.not_live)
of_no_queue shared.NewRef t = None
of_no_queue shared.DelRef t = None

abbrev pub of_no_cell : SharedOp → Ty → Option (List Value)
of_no_cell shared.Enqueue t = None
of_no_cell shared.Dequeue t = None
of_no_cell shared.Release t = None
of_no_cell shared.Size t = None
of_no_cell shared.NewRef t = None
of_no_cell shared.DelRef t = Some (two (default t) outcome.not_live)

abbrev pub queue_operation : SharedOp → (serial : ℕ) → (item : Ty) → (put : Value) → Option Operation
queue_operation shared.Enqueue n t v = Some (operation.OnQueue (queue.Enqueue n (coerced v t)))
queue_operation shared.Dequeue n t v = Some (operation.OnQueue (queue.Dequeue n))
queue_operation shared.Release n t v = Some (operation.OnQueue (queue.Release n))
queue_operation shared.Size n t v = Some (operation.OnQueue (queue.Size n))
queue_operation shared.NewRef n t v = None
queue_operation shared.DelRef n t v = None

abbrev pub cell_operation : SharedOp → (serial : ℕ) → Option Operation
cell_operation shared.Enqueue n = None
cell_operation shared.Dequeue n = None
cell_operation shared.Release n = None
cell_operation shared.Size n = None
cell_operation shared.NewRef n = None
cell_operation shared.DelRef n = Some (operation.OnCell (ref.Delete n))

abbrev pub done_with : Entry → List Value → Plan
done_with e vs = plan.Effect (gives_with step.Done (outputs_given e vs))

abbrev pub done_after : (object : ℕ) → Operation → Plan
done_after k o = plan.Request (request k o 0 follow.Done)

abbrev pub by_queue : Entry → SharedOp → (put : Value) → (item : Ty) → Option Live → Option Plan
by_queue e o put t None = option_map (done_with e) (of_no_queue o t)
by_queue e o put t (Some l) = option_map (done_after l.object) (queue_operation o l.serial t put)

abbrev pub by_cell : Entry → SharedOp → Ty → Option Live → Option Plan
by_cell e o t None = option_map (done_with e) (of_no_cell o t)
by_cell e o t (Some l) = option_map (done_after l.object) (cell_operation o l.serial)

abbrev pub by_reference : Entry → SharedOp → (put : Value) → Value-F Value → Option Plan
by_reference e o put (Value-F.Queue r) = by_queue e o put r.elem r.at
by_reference e o put (Value-F.Cell r) = by_cell e o r.elem r.at
by_reference e o put _ = None

-- a `newref` makes the reference of its own place
abbrev pub makes : Here → (line : ℕ) → Value → Plan
makes h l v = done_after (cell_object h.program h.frame.space l) (operation.OnCell (ref.Make v))

abbrev pub shared_plan : Here → Entry → SharedOp → List Value → Option Plan
shared_plan h e shared.NewRef vs = Some (makes h e.line (input_at vs 0))
shared_plan h e shared.Enqueue vs = by_reference e shared.Enqueue (input_at vs 1) (out-Value (input_at vs 0))
shared_plan h e shared.Dequeue vs = by_reference e shared.Dequeue (input_at vs 1) (out-Value (input_at vs 0))
shared_plan h e shared.Release vs = by_reference e shared.Release (input_at vs 1) (out-Value (input_at vs 0))
shared_plan h e shared.Size vs = by_reference e shared.Size (input_at vs 1) (out-Value (input_at vs 0))
shared_plan h e shared.DelRef vs = by_reference e shared.DelRef (input_at vs 1) (out-Value (input_at vs 0))

-- ---- structures in place

abbrev pub placement : Here → Entry → List Tunnel → (body finish : ℕ) → Reference → Ty → Live → (referred : Value) → Placement
placement h e lines body finish r t l v =
    let made = place_body h e lines body finish r.next t v [] in
    record {
      object = l.object;
      serial = l.serial;
      value = made.0;
      outputs = made.1;
      same = (r.same, value_on h.outer r.from);
      places = other_places (e.line + 1) lines ++ r.code ∷ [];
    }
