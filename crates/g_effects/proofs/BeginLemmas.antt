-- Iterations begin only within the limit.
use Rattle.std.proofs.Common.{◌≡◌, ℕ, ◌+◌, Bool, true, false, List, length, map, refl}
use Rattle.std.specs.Prelude.{Option, Some, None, slice_get, if◌then◌else◌}
use Rattle.std.specs.Option.{option_map, option_and_then}
use Rattle.g_types.specs.declared.ty.Ty.{Ty}
use Rattle.g_values.specs.declared.value.Live.{Live}
use Rattle.g_values.specs.declared.value.Value.{Value, out-Value}
use Rattle.g_values.specs.declared.value.Value.TheOpen.{Value-F}
use Rattle.g_operations.specs.declared.shared.SharedOp.{SharedOp}
use Rattle.g_operations.specs.declared.shared.SharedOp.TheVariants as shared
use Rattle.g_diagram.specs.declared.node.Tunnel.{Tunnel}
use Rattle.g_diagram.specs.Lines.{Wire, Arm, Part, Entry, Kind, Const, Apply, Shows, Shared, Obtain, Read, Write, Call, Loop, Case, Sequence, InPlace}
use Rattle.g_border.specs.Readers.{value_on}
use Rattle.g_border.specs.Lines.{Reference, reference_in, latest}
use Rattle.g_border.specs.Loops.{has_ended}
use Rattle.g_border.specs.Cases.{chosen}
use Rattle.g_frames.specs.declared.state.Progress.{Progress}
use Rattle.g_frames.specs.declared.state.Progress.TheVariants as progress
use Rattle.g_frames.specs.declared.state.Frame.{Frame}
use Rattle.g_frames.specs.Program.{FlatVi, vi_at, numbered}
use Rattle.g_frames.specs.State.{is_complete, reader_in}
use Rattle.g_frames.specs.Effects.{Here}
use Rattle.g_frames.specs.Operations.{input_at}
use Rattle.g_frames.specs.Structures.{readers_of, is_latest_complete}
use Rattle.g_objects.specs.Operations.{given_to}
use Rattle.g_effects.specs.declared.effect.Effect.{Effect}
use Rattle.g_effects.specs.declared.plan.Placement.{Placement}
use Rattle.g_effects.specs.declared.plan.Request.{Request}
use Rattle.g_effects.specs.declared.plan.Plan.TheVariants as plan
use Rattle.g_effects.specs.Structures.{branch_opens, case_ends, part_opens}
use Rattle.g_effects.specs.Turns.{turn_of, by_turn, loop_end, loop_next, loop_plan, branch_ends, case_plan, part_plan, sequence_plan}
use Rattle.g_effects.specs.Requests.{call_plan, by_queue, by_cell, by_reference, shared_plan, placement}
use Rattle.g_effects.specs.Kinds.{place_by, place_at, place_plan, kind_plan}
use Rattle.g_effects.specs.Laws.{BeginsWithin}

-- ---- plans that begin none

quiet : (room : Bool) → false ≡ true → room ≡ true
quiet room e = absurd cc

request_within : (room : Bool) (m : Option Request) → BeginsWithin room (option_map plan.Request m)
request_within room None = tt
request_within room (Some q) = tt

placed_within : {A : Type 0} (room : Bool) (f : A → Placement) (m : Option A) → BeginsWithin room (option_map (λ x. plan.Placement (f x)) m)
placed_within room f None = tt
placed_within room f (Some x) = tt

called_within : (room : Bool) (f : FlatVi → Option Request) (m : Option FlatVi) → BeginsWithin room (option_and_then (λ called. option_map plan.Request (f called)) m)
called_within room f None = tt
called_within room f (Some called) = request_within room (f called)

-- ---- loops, cases and sequences

turn_within : (c e r : Bool) (a b : Effect) → a.begins ≡ false → BeginsWithin r (option_map plan.Effect (by_turn (turn_of c e r) a b))
turn_within false e r a b ends = tt
turn_within true true r a b ends = λ begins. absurd cc
turn_within true false true a b ends = λ begins. refl
turn_within true false false a b ends = tt

loop_within : (h : Here) (l : ℕ) (count stop : Option Wire) (i : Wire) (lines : List Tunnel) (body : ℕ) (p : Progress) →
    BeginsWithin h.has_room (option_map plan.Effect (loop_plan h l count stop i lines body p))
loop_within h l count stop i lines body progress.Idle = quiet h.has_room
loop_within h l count stop i lines body progress.Done = tt
loop_within h l count stop i lines body (progress.Loop vs ks ended) =
    turn_within (is_latest_complete h ks) (has_ended h.outer count stop lines (length ks) (latest (readers_of h ks))) h.has_room
    (loop_end h l lines body vs ks) (loop_next h l count stop i lines body vs ks) refl
loop_within h l count stop i lines body (progress.Case k ended) = tt
loop_within h l count stop i lines body (progress.Sequence ks ended) = tt
loop_within h l count stop i lines body (progress.Call clone stage) = tt

opened_within : (h : Here) (l : ℕ) (lines : List Tunnel) (m : Option Arm) →
    BeginsWithin h.has_room (option_map plan.Effect (option_map (branch_opens h.frame.vi h.frame.space h.outer l lines) m))
opened_within h l lines None = tt
opened_within h l lines (Some arm) = quiet h.has_room

ended_within : (room b : Bool) (x : Effect) → x.begins ≡ false → BeginsWithin room (option_map plan.Effect (if b then Some x else None))
ended_within room true x ends = λ begins. absurd cc
ended_within room false x ends = tt

branch_within : (h : Here) (l : ℕ) (lines : List Tunnel) (arms : List Arm) (m : Option Frame) →
    BeginsWithin h.has_room (option_map plan.Effect (option_and_then (branch_ends h l lines arms) m))
branch_within h l lines arms None = tt
branch_within h l lines arms (Some f) = ended_within h.has_room (is_complete f) (case_ends h.vi.types (reader_in h.vi f) f.diagram l lines arms) refl

case_within : (h : Here) (l : ℕ) (w : Wire) (lines : List Tunnel) (arms : List Arm) (p : Progress) →
    BeginsWithin h.has_room (option_map plan.Effect (case_plan h l w lines arms p))
case_within h l w lines arms progress.Idle = opened_within h l lines (chosen (value_on h.outer w) arms)
case_within h l w lines arms progress.Done = tt
case_within h l w lines arms (progress.Loop vs ks ended) = tt
case_within h l w lines arms (progress.Case k ended) = branch_within h l lines arms (slice_get h.frames k)
case_within h l w lines arms (progress.Sequence ks ended) = tt
case_within h l w lines arms (progress.Call clone stage) = tt

first_within : (h : Here) (m : Option Part) → BeginsWithin h.has_room (option_map plan.Effect (option_map (part_opens h.frame.vi h.frame.space h.outer None 0) m))
first_within h None = tt
first_within h (Some part) = quiet h.has_room

part_quiet : (h : Here) (parts : List Part) (ks : List ℕ) (m : Option Part) → (part_plan h parts ks m).begins ≡ false
part_quiet h parts ks None = refl
part_quiet h parts ks (Some part) = refl

sequence_within : (h : Here) (parts : List Part) (p : Progress) → BeginsWithin h.has_room (option_map plan.Effect (sequence_plan h parts p))
sequence_within h parts progress.Idle = first_within h (slice_get parts 0)
sequence_within h parts progress.Done = tt
sequence_within h parts (progress.Loop vs ks ended) = tt
sequence_within h parts (progress.Case k ended) = tt
sequence_within h parts (progress.Sequence ks ended) =
    ended_within h.has_room (is_latest_complete h ks) (part_plan h parts ks (slice_get parts (length ks))) (part_quiet h parts ks (slice_get parts (length ks)))
sequence_within h parts (progress.Call clone stage) = tt

-- ---- queues and references

by_queue_within : (room : Bool) (e : Entry) (o : SharedOp) (put : Value) (t : Ty) (at : Option Live) → BeginsWithin room (by_queue e o put t at)
by_queue_within room e shared.Enqueue put t None = quiet room
by_queue_within room e shared.Dequeue put t None = quiet room
by_queue_within room e shared.Release put t None = quiet room
by_queue_within room e shared.Size put t None = quiet room
by_queue_within room e shared.NewRef put t None = tt
by_queue_within room e shared.DelRef put t None = tt
by_queue_within room e shared.Enqueue put t (Some l) = tt
by_queue_within room e shared.Dequeue put t (Some l) = tt
by_queue_within room e shared.Release put t (Some l) = tt
by_queue_within room e shared.Size put t (Some l) = tt
by_queue_within room e shared.NewRef put t (Some l) = tt
by_queue_within room e shared.DelRef put t (Some l) = tt

by_cell_within : (room : Bool) (e : Entry) (o : SharedOp) (t : Ty) (at : Option Live) → BeginsWithin room (by_cell e o t at)
by_cell_within room e shared.Enqueue t None = tt
by_cell_within room e shared.Dequeue t None = tt
by_cell_within room e shared.Release t None = tt
by_cell_within room e shared.Size t None = tt
by_cell_within room e shared.NewRef t None = tt
by_cell_within room e shared.DelRef t None = quiet room
by_cell_within room e shared.Enqueue t (Some l) = tt
by_cell_within room e shared.Dequeue t (Some l) = tt
by_cell_within room e shared.Release t (Some l) = tt
by_cell_within room e shared.Size t (Some l) = tt
by_cell_within room e shared.NewRef t (Some l) = tt
by_cell_within room e shared.DelRef t (Some l) = tt

reference_within : (room : Bool) (e : Entry) (o : SharedOp) (put : Value) (v : Value-F Value) → BeginsWithin room (by_reference e o put v)
reference_within room e o put (Value-F.Num x) = tt
reference_within room e o put (Value-F.Bool b) = tt
reference_within room e o put (Value-F.Str s) = tt
reference_within room e o put (Value-F.Nums xs) = tt
reference_within room e o put (Value-F.Arr xs) = tt
reference_within room e o put (Value-F.Cluster ws) = tt
reference_within room e o put (Value-F.Queue r) = by_queue_within room e o put r.elem r.at
reference_within room e o put (Value-F.Cell r) = by_cell_within room e o r.elem r.at

shared_within : (h : Here) (e : Entry) (o : SharedOp) (vs : List Value) → BeginsWithin h.has_room (shared_plan h e o vs)
shared_within h e shared.NewRef vs = tt
shared_within h e shared.Enqueue vs = reference_within h.has_room e shared.Enqueue (input_at vs 1) (out-Value (input_at vs 0))
shared_within h e shared.Dequeue vs = reference_within h.has_room e shared.Dequeue (input_at vs 1) (out-Value (input_at vs 0))
shared_within h e shared.Release vs = reference_within h.has_room e shared.Release (input_at vs 1) (out-Value (input_at vs 0))
shared_within h e shared.Size vs = reference_within h.has_room e shared.Size (input_at vs 1) (out-Value (input_at vs 0))
shared_within h e shared.DelRef vs = reference_within h.has_room e shared.DelRef (input_at vs 1) (out-Value (input_at vs 0))

-- ---- structures in place

place_by_within : (h : Here) (e : Entry) (lines : List Tunnel) (body finish : ℕ) (r : Reference) (t : Ty) (at : Option Live) →
    BeginsWithin h.has_room (place_by h e lines body finish r t at)
place_by_within h e lines body finish r t None = quiet h.has_room
place_by_within h e lines body finish r t (Some l) =
    placed_within h.has_room (placement h e lines body finish r t l) (option_and_then (λ c. given_to c l.serial) (slice_get h.objects l.object))

place_at_within : (h : Here) (e : Entry) (lines : List Tunnel) (body finish : ℕ) (r : Reference) (v : Value-F Value) →
    BeginsWithin h.has_room (place_at h e lines body finish r v)
place_at_within h e lines body finish r (Value-F.Num x) = tt
place_at_within h e lines body finish r (Value-F.Bool b) = tt
place_at_within h e lines body finish r (Value-F.Str s) = tt
place_at_within h e lines body finish r (Value-F.Nums xs) = tt
place_at_within h e lines body finish r (Value-F.Arr xs) = tt
place_at_within h e lines body finish r (Value-F.Cluster ws) = tt
place_at_within h e lines body finish r (Value-F.Queue q) = tt
place_at_within h e lines body finish r (Value-F.Cell c) = place_by_within h e lines body finish r c.elem c.at

place_within : (h : Here) (e : Entry) (lines : List Tunnel) (body finish : ℕ) (m : Option Reference) → BeginsWithin h.has_room (place_plan h e lines body finish m)
place_within h e lines body finish None = quiet h.has_room
place_within h e lines body finish (Some r) = place_at_within h e lines body finish r (out-Value (value_on h.outer r.from))

-- ---- all kinds

pub begins_within : (h : Here) (e : Entry) (choice : Option ℕ) (k : Kind) (p : Progress) → BeginsWithin h.has_room (kind_plan h e choice k p)
begins_within h e None (Const t literal out) p = quiet h.has_room
begins_within h e None (Apply op inputs outputs) p = quiet h.has_room
begins_within h e None (Shows name t w) p = tt
begins_within h e None (Shared op inputs outputs) p = shared_within h e op (map (value_on h.outer) inputs)
begins_within h e None (Obtain name size item out) p = tt
begins_within h e None (Read name out) p = tt
begins_within h e None (Write name w) p = tt
begins_within h e choice (Call name inputs outputs) p =
    called_within h.has_room (λ called. call_plan h e.line inputs choice p (numbered h.program.vis name) called.panel called.clones)
    (vi_at h.program (numbered h.program.vis name))
begins_within h e None (Loop count stop i lines body) p = loop_within h e.line count stop i lines body p
begins_within h e None (Case w lines arms) p = case_within h e.line w lines arms p
begins_within h e None (Sequence parts) p = sequence_within h parts p
begins_within h e None (InPlace lines body finish) p = place_within h e lines body finish (reference_in (e.line + 1) lines)
begins_within h e (Some k) (Const t literal out) p = tt
begins_within h e (Some k) (Apply op inputs outputs) p = tt
begins_within h e (Some k) (Shows name t w) p = tt
begins_within h e (Some k) (Shared op inputs outputs) p = tt
begins_within h e (Some k) (Obtain name size item out) p = tt
begins_within h e (Some k) (Read name out) p = tt
begins_within h e (Some k) (Write name w) p = tt
begins_within h e (Some k) (Loop count stop i lines body) p = tt
begins_within h e (Some k) (Case w lines arms) p = tt
begins_within h e (Some k) (Sequence parts) p = tt
begins_within h e (Some k) (InPlace lines body finish) p = tt
