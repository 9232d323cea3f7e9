-- Inner: the steps of a body in place, as the code has them.
use Rattle.std.specs.Prelude.{◌≡◌, ℕ, ◌+◌, true, List, [], ◌∷◌, ◌++◌, map, Option}
use Rattle.std.specs.List.{list_all}
use Rattle.std.specs.Option.{option_map}
use denote.Ref.{Bor}
use Rattle.g_values.specs.declared.primitive.Primitive.{Primitive}
use Rattle.g_prims_definitions.specs.Values.{outputs_of}
use Rattle.g_literals.specs.Values.{literal_value}
use Rattle.g_diagram.specs.declared.node.Tunnel.{Tunnel}
use Rattle.g_diagram.specs.Operands.{Inside, Outside, border}
use Rattle.g_diagram.specs.Lines as lines
use Rattle.g_diagram.specs.Lines.{Wire}
use Rattle.g_diagram_table.specs.Seen.{seen, seen_arm}
use Rattle.g_typing.specs.Types.{Types}
use Rattle.g_border.specs.Bodies as bodies
use Rattle.g_border.specs.Bodies.{Readers, in_diagram, arms_read, results_of}
use Rattle.g_border.specs.Cases.{chosen}
use Rattle.g_border.specs.Lines.{entering, lines_inside, leaving, lines_outside}
use Rattle.g_border.specs.Readers.{Given, has_value, value_on, wires_taken, outputs_given}
use Rattle.g_effects.specs.Needs.{FitsPrimitive}
use Rattle.g_bodies.specs.declared.steps.Step.{Step}
use Rattle.g_bodies.specs.declared.steps.Work.{Work}
use Rattle.g_bodies.specs.declared.steps.Work.TheVariants as work

-- a wire with the line of its diagram
abbrev pub seen_read : (ℕ × Option (Bor (List ℕ))) → ℕ × Wire
seen_read w = (w.0, option_map (λ name. name.now) w.1)

-- what a step gives
abbrev pub gives_of : Types → Work → Readers → Given
gives_of types (work.Const e t literal) r = outputs_given (seen e.now) (literal_value literal.now t.now ∷ [])
gives_of types (work.Apply e op inputs) r = outputs_given (seen e.now) (outputs_of op (map (value_on (r e.now.diagram)) inputs.now))
gives_of types (work.Inside e tunnels) r = lines_inside (entering (r e.now.diagram)) (e.now.line + 1) tunnels.now
gives_of types (work.Results e selector tunnels arms) r =
    results_of types (e.now.line + 1) tunnels.now (map seen_arm arms.now) r
    (chosen (value_on (r e.now.diagram) selector.now) (map seen_arm arms.now))
gives_of types (work.Outside e tunnels d) r =
    lines_outside (leaving (r e.now.diagram) (r d ∷ []) (types d)) (e.now.line + 1) tunnels.now

abbrev pub reads_of : Step → List (ℕ × Wire)
reads_of s = map seen_read s.reads.items

abbrev pub step_of : Types → Step → bodies.Step
step_of types s = record { reads = reads_of s; gives = gives_of types s.work }

-- ---- what steps need

-- a primitive's inputs are proper values whose types have a row
abbrev pub WorkFits : Readers → Work → Type 0
WorkFits r (work.Const e t literal) = Unit {0}
WorkFits r (work.Apply e op inputs) = FitsPrimitive op (map (value_on (r e.now.diagram)) inputs.now)
WorkFits r (work.Inside e tunnels) = Unit {0}
WorkFits r (work.Results e selector tunnels arms) = Unit {0}
WorkFits r (work.Outside e tunnels d) = Unit {0}

-- at whatever turn its wires have values
abbrev pub StepFits : (ℕ → Readers) → Step → Type 0
StepFits r s = (n : ℕ) → list_all (λ w. has_value (r n w.0) w.1) (reads_of s) ≡ true → WorkFits (r n) s.work

abbrev pub AllFit : (ℕ → Readers) → List Step → Type 0
AllFit r [] = Unit {0}
AllFit r (s ∷ ss) = StepFits r s × AllFit r ss

abbrev pub InputsFit : (ℕ → Readers) → (diagram : ℕ) → Primitive → List Wire → Type 0
InputsFit r d op inputs = (n : ℕ) → list_all (has_value (r n d)) inputs ≡ true → FitsPrimitive op (map (value_on (r n d)) inputs)

abbrev pub NodeFits : (ℕ → Readers) → lines.Entry → Type 0
NodeFits r e = (op : Primitive) (inputs outputs : List Wire) → e.kind ≡ lines.Apply op inputs outputs → InputsFit r e.diagram op inputs

abbrev pub NodesFit : (ℕ → Readers) → List lines.Entry → Type 0
NodesFit r [] = Unit {0}
NodesFit r (e ∷ es) = NodeFits r e × NodesFit r es

-- ---- the wires that steps read

-- the wires that border lines take from a side
abbrev pub taken_outside : List Tunnel → List Wire
taken_outside [] = []
taken_outside (t ∷ ts) = wires_taken Outside (border t) ++ taken_outside ts

abbrev pub taken_inside : List Tunnel → List Wire
taken_inside [] = []
taken_inside (t ∷ ts) = wires_taken Inside (border t) ++ taken_inside ts

-- ---- the steps of structures

-- the first step of a structure, which reads these wires and those of its border lines
abbrev pub first_step : lines.Entry → (first : List Wire) → List Tunnel → bodies.Step
first_step e ws ts = record { reads = in_diagram e.diagram ws ++ in_diagram e.diagram (taken_outside ts); gives = λ r. lines_inside (entering (r e.diagram)) (e.line + 1) ts }

abbrev pub results_step : Types → lines.Entry → (selector : Wire) → List Tunnel → List lines.Arm → bodies.Step
results_step types e selector ts arms = record {
  reads = (e.diagram, selector) ∷ arms_read arms;
  gives = λ r. results_of types (e.line + 1) ts arms r (chosen (value_on (r e.diagram) selector) arms);
}

abbrev pub outputs_step : Types → lines.Entry → List Tunnel → (body : ℕ) → bodies.Step
outputs_step types e ts d = record {
  reads = in_diagram e.diagram (taken_outside ts) ++ in_diagram d (taken_inside ts);
  gives = λ r. lines_outside (leaving (r e.diagram) (r d ∷ []) (types d)) (e.line + 1) ts;
}
