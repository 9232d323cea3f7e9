-- What a node's next firing does, kind by kind, as the code has it.
use Rattle.std.specs.Prelude.{ℕ, ◌+◌, List, [], ◌∷◌, ◌++◌, map, Option, Some, None, slice_get}
use Rattle.std.specs.Option.{option_map, option_and_then}
use Rattle.g_types.specs.declared.ty.Ty.{Ty}
use Rattle.g_values.specs.declared.value.Live.{Live}
use Rattle.g_values.specs.declared.value.Value.{Value, out-Value}
use Rattle.g_values.specs.declared.value.Value.TheOpen.{Value-F}
use Rattle.g_values.specs.Coerce.{coerced}
use Rattle.g_values.specs.Default.{default}
use Rattle.g_prims_definitions.specs.Arithmetic.{nothing}
use Rattle.g_prims_definitions.specs.Values.{outputs_of}
use Rattle.g_literals.specs.Values.{literal_value}
use Rattle.g_diagram.specs.declared.node.Tunnel.{Tunnel}
use Rattle.g_diagram.specs.Lines.{Wire, Entry, Kind, Const, Apply, Shows, Shared, Obtain, Read, Write, Call, Loop, Case, Sequence, InPlace}
use Rattle.g_typing.specs.Typing.{panel_type}
use Rattle.g_shared.specs.declared.operations.PanelOp.{PanelOp}
use Rattle.g_shared.specs.declared.operations.PanelOp.TheVariants as panel
use Rattle.g_shared.specs.declared.operations.QueueOp.TheVariants as queue
use Rattle.g_shared.specs.Outcome as outcome
use Rattle.g_border.specs.Readers.{value_on, outputs_given}
use Rattle.g_border.specs.Lines.{leaving, lines_outside, Reference, reference_in}
use Rattle.g_border.specs.Cases.{coerced_to}
use Rattle.g_frames.specs.declared.state.Progress.{Progress}
use Rattle.g_frames.specs.Program.{vi_at, numbered, queue_object, panel_object}
use Rattle.g_frames.specs.Panels.{cell_number}
use Rattle.g_frames.specs.Effects.{Here}
use Rattle.g_frames.specs.InPlace.{place_reader, place_body}
use Rattle.g_objects.specs.declared.operation.Operation.TheVariants as operation
use Rattle.g_objects.specs.Operations.{given_to}
use Rattle.g_effects.specs.declared.advance.Advance.TheVariants as step
use Rattle.g_effects.specs.Effects.{gives_with}
use Rattle.g_effects.specs.declared.plan.Plan.{Plan}
use Rattle.g_effects.specs.declared.plan.Plan.TheVariants as plan
use Rattle.g_effects.specs.Turns.{loop_plan, case_plan, sequence_plan}
use Rattle.g_effects.specs.Requests.{done_after, shared_plan, call_plan, place_given, placement}

abbrev pub panel_cell : Here → (name : List ℕ) → ℕ
panel_cell h name = cell_number h.vi.panel name

abbrev pub on_own_panel : Here → PanelOp → Plan
on_own_panel h o = done_after (panel_object h.program h.frame.space) (operation.OnPanel o)

abbrev pub shows : Here → (name : List ℕ) → Ty → Wire → Plan
shows h name t w = on_own_panel h (panel.Write (panel_cell h name) (coerced (value_on h.outer w) t))

abbrev pub writes : Here → (name : List ℕ) → Wire → Plan
writes h name w = on_own_panel h (panel.Write (panel_cell h name) (coerced_to (panel_type h.vi.panel name) (value_on h.outer w)))

abbrev pub reads : Here → (name : List ℕ) → Plan
reads h name = on_own_panel h (panel.Read (panel_cell h name))

abbrev pub obtains : Here → (queue : List ℕ) → Plan
obtains h name = done_after (queue_object h.program name) (operation.OnQueue queue.Obtain)

-- a choice stands at the enter of a pool alone
abbrev pub unchosen : {A : Type 0} → (choice : Option ℕ) → Option A → Option A
unchosen None m = m
unchosen (Some k) m = None

abbrev pub called_plan : Here → Entry → (inputs : List Wire) → (choice : Option ℕ) → Progress → (vi : ℕ) → Option Plan
called_plan h e inputs choice p v =
    option_and_then (λ called. option_map plan.Request (call_plan h e.line inputs choice p v called.panel called.clones)) (vi_at h.program v)

abbrev pub named_plan : Here → Entry → (name : List ℕ) → (inputs : List Wire) → (choice : Option ℕ) → Progress → Option Plan
named_plan h e name inputs choice p = called_plan h e inputs choice p (numbered h.program.vis name)

-- ---- structures in place

abbrev pub plain_place : Here → Entry → List Tunnel → (body finish : ℕ) → Plan
plain_place h e lines body finish =
    plan.Effect (gives_with step.Done (lines_outside (leaving h.outer (place_reader h e lines body finish nothing ∷ []) (h.vi.types body)) (e.line + 1) lines))

-- by the null reference the default goes in, and nothing comes of the new value
abbrev pub null_place : Here → Entry → List Tunnel → (body finish : ℕ) → Reference → Ty → Plan
null_place h e lines body finish r t =
    plan.Effect (place_given h e lines r (outcome.reply_of ((place_body h e lines body finish r.next t (default t) []).1 ++ outcome.not_live ∷ [])))

abbrev pub live_place : Here → Entry → List Tunnel → (body finish : ℕ) → Reference → Ty → Live → Option Plan
live_place h e lines body finish r t l =
    option_map (λ v. plan.Placement (placement h e lines body finish r t l v))
    (option_and_then (λ c. given_to c l.serial) (slice_get h.objects l.object))

abbrev pub place_by : Here → Entry → List Tunnel → (body finish : ℕ) → Reference → Ty → Option Live → Option Plan
place_by h e lines body finish r t None = Some (null_place h e lines body finish r t)
place_by h e lines body finish r t (Some l) = live_place h e lines body finish r t l

abbrev pub place_at : Here → Entry → List Tunnel → (body finish : ℕ) → Reference → Value-F Value → Option Plan
place_at h e lines body finish r (Value-F.Cell c) = place_by h e lines body finish r c.elem c.at
place_at h e lines body finish r _ = None

abbrev pub place_plan : Here → Entry → List Tunnel → (body finish : ℕ) → Option Reference → Option Plan
place_plan h e lines body finish None = Some (plain_place h e lines body finish)
place_plan h e lines body finish (Some r) = place_at h e lines body finish r (out-Value (value_on h.outer r.from))

-- ---- all kinds

abbrev pub kind_plan : Here → Entry → (choice : Option ℕ) → Kind → Progress → Option Plan
kind_plan h e choice (Const t literal out) p = unchosen choice (Some (plan.Effect (gives_with step.Done (outputs_given e (literal_value literal t ∷ [])))))
kind_plan h e choice (Apply op inputs outputs) p =
    unchosen choice (Some (plan.Effect (gives_with step.Done (outputs_given e (outputs_of op (map (value_on h.outer) inputs))))))
kind_plan h e choice (Shows name t w) p = unchosen choice (Some (shows h name t w))
kind_plan h e choice (Shared op inputs outputs) p = unchosen choice (shared_plan h e op (map (value_on h.outer) inputs))
kind_plan h e choice (Obtain name size item out) p = unchosen choice (Some (obtains h name))
kind_plan h e choice (Read name out) p = unchosen choice (Some (reads h name))
kind_plan h e choice (Write name w) p = unchosen choice (Some (writes h name w))
kind_plan h e choice (Call name inputs outputs) p = named_plan h e name inputs choice p
kind_plan h e choice (Loop count stop i lines body) p = unchosen choice (option_map plan.Effect (loop_plan h e.line count stop i lines body p))
kind_plan h e choice (Case selector lines arms) p = unchosen choice (option_map plan.Effect (case_plan h e.line selector lines arms p))
kind_plan h e choice (Sequence parts) p = unchosen choice (option_map plan.Effect (sequence_plan h parts p))
kind_plan h e choice (InPlace lines body finish) p = unchosen choice (place_plan h e lines body finish (reference_in (e.line + 1) lines))
