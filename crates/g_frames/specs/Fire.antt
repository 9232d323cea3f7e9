-- One firing: what it needs, and what it does.
use Rattle.std.specs.Prelude.{ℕ, ◌+◌, ◌==◌, nat_lt, Bool, true, false, ◌&&◌, not, List, [], ◌∷◌, ◌++◌, map, Option, Some, None, is_some, is_none, slice_get, slice_set, if◌then◌else◌}
use Rattle.std.specs.List.{list_all}
use Rattle.std.specs.Option.{option_map, option_and_then, option_map_or, option_to_list}
use Rattle.g_values.specs.declared.value.Value.{Value}
use Rattle.g_values.specs.Coerce.{coerced}
use Rattle.g_prims_definitions.specs.Values.{outputs_of}
use Rattle.g_literals.specs.Values.{literal_value}
use Rattle.g_diagram.specs.Lines.{Entry, Kind, Const, Apply, Shows, Shared, Obtain, Read, Write, Call, Loop, Case, Sequence, InPlace}
use Rattle.g_typing.specs.Typing.{panel_type}
use Rattle.g_shared.specs.declared.operations.PanelOp.TheVariants as panel
use Rattle.g_shared.specs.declared.operations.QueueOp.TheVariants as queue
use Rattle.g_border.specs.Readers.{Reader, has_value, value_on, inputs_of, outputs_given}
use Rattle.g_border.specs.Lines.{reference_in}
use Rattle.g_border.specs.Cases.{coerced_to}
use Rattle.g_frames.specs.declared.firing.Firing.{Firing}
use Rattle.g_frames.specs.declared.state.Progress.{Progress}
use Rattle.g_frames.specs.declared.state.Progress.TheVariants as progress
use Rattle.g_frames.specs.declared.state.Frame.{Frame}
use Rattle.g_frames.specs.Contents.{Content, OnQueue}
use Rattle.g_frames.specs.Program.{FlatVi, Program, vi_at, numbered, queue_object}
use Rattle.g_frames.specs.Panels.{cell_number}
use Rattle.g_frames.specs.State.{FireState, Opening, is_done, nodes_in, reader_in, with_given, sources_in, opened}
use Rattle.g_frames.specs.Effects.{Effect, gives, guard, Here, on_object}
use Rattle.g_frames.specs.Operations.{done, on_own_panel, shared_effect}
use Rattle.g_frames.specs.Structures.{loop_effect, case_effect, sequence_effect}
use Rattle.g_frames.specs.InPlace.{place_effect}
use Rattle.g_frames.specs.Calls.{call_effect}

-- ---- all kinds of nodes

abbrev pub panel_cell : Here → (name : List ℕ) → ℕ
panel_cell h name = cell_number h.vi.panel name

-- The next firing of a node that isn't done and has its inputs, by what it has done so far, if it can fire. A choice stands at the enter of
-- a pool alone
abbrev pub effect : Here → Entry → (choice : Option ℕ) → Kind → Progress → Option Effect
effect h e choice (Const t literal out) p = guard (is_none choice) (Some (gives progress.Done (outputs_given e (literal_value literal t ∷ []))))
effect h e choice (Apply op inputs outputs) p =
    guard (is_none choice) (Some (gives progress.Done (outputs_given e (outputs_of op (map (value_on h.outer) inputs)))))
effect h e choice (Shows name t w) p = guard (is_none choice) (on_own_panel h e (panel.Write (panel_cell h name) (coerced (value_on h.outer w) t)))
effect h e choice (Shared op inputs outputs) p = guard (is_none choice) (shared_effect h e op (map (value_on h.outer) inputs))
effect h e choice (Obtain name size item out) p = guard (is_none choice) (on_object h (queue_object h.program name) (OnQueue queue.Obtain) 0 (done e))
effect h e choice (Read name out) p = guard (is_none choice) (on_own_panel h e (panel.Read (panel_cell h name)))
effect h e choice (Write name w) p =
    guard (is_none choice) (on_own_panel h e (panel.Write (panel_cell h name) (coerced_to (panel_type h.vi.panel name) (value_on h.outer w))))
effect h e choice (Call name inputs outputs) p =
    let v = numbered h.program.vis name in option_and_then (call_effect h e inputs choice p v) (vi_at h.program v)
effect h e choice (Loop count stop iteration lines body) p = guard (is_none choice) (loop_effect h e count stop iteration lines body p)
effect h e choice (Case selector lines arms) p = guard (is_none choice) (case_effect h e selector lines arms p)
effect h e choice (Sequence parts) p = guard (is_none choice) (sequence_effect h parts p)
effect h e choice (InPlace lines body finish) p = guard (is_none choice) (place_effect h e lines body finish (reference_in (e.line + 1) lines))

-- ---- firings

-- whether all wired operands that a node takes from its own diagram have values
abbrev pub has_inputs : Reader → Entry → Bool
has_inputs outer e = list_all (has_value outer) (inputs_of e)

-- whether a node isn't done and has its inputs
abbrev pub is_ready : Reader → Entry → Progress → Bool
is_ready outer e p = not (is_done p) && has_inputs outer e

abbrev pub node_effect : Here → (choice : Option ℕ) → Entry → Progress → Option Effect
node_effect h choice e p = guard (is_ready h.outer e p) (effect h e choice e.kind p)

-- the node on a line among the nodes of a diagram, with what it has done
abbrev pub node_on : (line : ℕ) → List Entry → List Progress → Option (Entry × Progress)
node_on l [] ps = None
node_on l (e ∷ es) [] = None
node_on l (e ∷ es) (p ∷ ps) = if e.line == l then Some (e, p) else node_on l es ps

abbrev pub here : Program → (has_room : Bool) → FireState → Frame → FlatVi → Here
here p has_room s f vi = record {
  program = p;
  frames = s.frames;
  objects = s.objects;
  kept = s.kept;
  has_room = has_room;
  frame = f;
  vi = vi;
  outer = reader_in vi f;
}

abbrev pub effect_in : Program → (has_room : Bool) → FireState → Firing → Frame → FlatVi → Option Effect
effect_in p has_room s x f vi =
    option_and_then (λ n. node_effect (here p has_room s f vi) x.choice n.0 n.1) (node_on x.node (nodes_in vi f.diagram) f.nodes)

-- what a firing does where the limit leaves room for an iteration or not, if it can fire
abbrev pub effect_with : Program → (has_room : Bool) → FireState → Firing → Option Effect
effect_with p has_room s x = option_and_then (λ f. option_and_then (effect_in p has_room s x f) (vi_at p f.vi)) (slice_get s.frames x.frame)

-- what a firing does, if it can fire
abbrev pub effect_of : Program → FireState → Firing → Option Effect
effect_of p s x = effect_with p (nat_lt s.begun s.limit) s x

abbrev pub can_fire : Program → FireState → Firing → Bool
can_fire p s x = is_some (effect_of p s x)

-- ---- the state after an effect, alike for all firings

abbrev pub with_progress : (line : ℕ) → Progress → List Entry → List Progress → List Progress
with_progress l q [] ps = ps
with_progress l q (e ∷ es) [] = []
with_progress l q (e ∷ es) (p ∷ ps) = if e.line == l then q ∷ ps else p ∷ with_progress l q es ps

-- the frame in which a node fired
abbrev pub fired_in : (line : ℕ) → Effect → Frame → FlatVi → Frame
fired_in l e f vi =
    record f { values = with_given (sources_in f.diagram vi.ports) f.values e.gives; nodes = with_progress l e.progress (nodes_in vi f.diagram) f.nodes }

abbrev pub fired_frame : Program → (line : ℕ) → Effect → Frame → Frame
fired_frame p l e f = option_map_or (fired_in l e f) (vi_at p f.vi) f

abbrev pub fired_frames : Program → Firing → Effect → List Frame → List Frame
fired_frames p x e fs = option_map_or (λ f. slice_set fs x.frame (fired_frame p x.node e f)) (slice_get fs x.frame) fs

-- the frame that is opened, if there is one
abbrev pub opened_frame : Program → Firing → Opening → Option Frame
opened_frame p x o = option_map (opened (Some (record { frame = x.frame; node = x.node })) o) (vi_at p o.vi)

abbrev pub objects_after : List Content → Option (ℕ × Content) → List Content
objects_after objects change = option_map_or (λ c. slice_set objects c.0 c.1) change objects

abbrev pub registers_after : List Value → List (ℕ × Value) → List Value
registers_after kept [] = kept
registers_after kept (k ∷ ks) = registers_after (slice_set kept k.0 k.1) ks

abbrev pub begun_after : ℕ → (begins : Bool) → ℕ
begun_after n true = n + 1
begun_after n false = n

abbrev pub applied : Program → FireState → Firing → Effect → FireState
applied p s x e = record s {
  frames = fired_frames p x e s.frames ++ option_to_list (option_and_then (opened_frame p x) e.opens);
  objects = objects_after s.objects e.changes;
  kept = registers_after s.kept e.keeps;
  begun = begun_after s.begun e.begins;
}

-- the state after a firing, which is unchanged by one that can't fire
abbrev pub fire : Program → FireState → Firing → FireState
fire p s x = option_map_or (applied p s x) (effect_of p s x) s
