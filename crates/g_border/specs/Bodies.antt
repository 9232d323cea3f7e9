-- The values of a body in place. It is a flat list of steps: each reads wires and gives values at sources, and all branches of a case are
-- gone through, since nothing in a body waits or changes anything outside it. In each turn the first step is taken whose wires all have
-- values, so there are as many turns as steps.
use Rattle.std.specs.Prelude.{ℕ, zero, suc, ◌+◌, nat_lt, Bool, ◌&&◌, List, [], ◌∷◌, ◌++◌, map, filter, length, Option, Some, None, if◌then◌else◌}
use Rattle.std.specs.List.{list_all}
use Rattle.std.specs.Option.{option_map, option_and_then, option_map_or}
use Rattle.g_prims_definitions.specs.Values.{outputs_of}
use Rattle.g_literals.specs.Values.{literal_value}
use Rattle.g_diagram.specs.declared.node.Tunnel.{Tunnel}
use Rattle.g_diagram.specs.Lines.{Wire, Arm, Entry, Kind, Const, Apply, Case, InPlace}
use Rattle.g_diagram.specs.Operands.{Inside}
use Rattle.g_diagram.specs.Ports.{Port}
use Rattle.g_typing.specs.Types.{Types}
use Rattle.g_border.specs.Readers.{Reader, has_value, value_on, Given, value_given, source_of, inputs_of, node_lines, wires_taken_on, outputs_given}
use Rattle.g_border.specs.Lines.{entering, lines_inside, leaving, lines_outside}
use Rattle.g_border.specs.Cases.{chosen, results_outside}

-- the values of a body's diagrams
abbrev pub Readers : Type 0
Readers = (diagram : ℕ) → Reader

pub record Step : Type 0 where
  pub reads : List (ℕ × Wire)
  pub gives : Readers → Given

abbrev pub in_diagram : ℕ → List Wire → List (ℕ × Wire)
in_diagram d ws = map (λ w. (d, w)) ws

abbrev pub arms_read : List Arm → List (ℕ × Wire)
arms_read [] = []
arms_read (arm ∷ arms) = in_diagram arm.body arm.gives ++ arms_read arms

abbrev pub results_of : Types → (line : ℕ) → List Tunnel → List Arm → Readers → Option Arm → Given
results_of types l lines arms r taken = option_map_or (λ arm. results_outside types arms arm (r arm.body) 0 l lines) taken []

-- The steps of a node in a body. A node that may not stand in one has none. A structure gives its inside first, and its outputs once these
-- have values
abbrev pub kind_steps : Types → Entry → Kind → List Step
kind_steps types e (Const t literal out) = record { reads = []; gives = λ r. outputs_given e (literal_value literal t ∷ []) } ∷ []
kind_steps types e (Apply op inputs outputs) =
    record { reads = in_diagram e.diagram inputs; gives = λ r. outputs_given e (outputs_of op (map (value_on (r e.diagram)) inputs)) } ∷ []
kind_steps types e (Case selector lines arms) =
    record { reads = in_diagram e.diagram (inputs_of e); gives = λ r. lines_inside (entering (r e.diagram)) (e.line + 1) lines }
    ∷ record {
      reads = (e.diagram, selector) ∷ arms_read arms;
      gives = λ r. results_of types (e.line + 1) lines arms r (chosen (value_on (r e.diagram) selector) arms);
    } ∷ []
kind_steps types e (InPlace lines body finish) =
    record { reads = in_diagram e.diagram (inputs_of e); gives = λ r. lines_inside (entering (r e.diagram)) (e.line + 1) lines }
    ∷ record {
      reads = in_diagram e.diagram (inputs_of e) ++ in_diagram body (wires_taken_on Inside (node_lines e));
      gives = λ r. lines_outside (leaving (r e.diagram) (r body ∷ []) (types body)) (e.line + 1) lines;
    } ∷ []
kind_steps types e _ = []

-- the nodes of a body and of all diagrams inside it, which stand between its `do` and its `end`
abbrev pub inside_of : (body finish : ℕ) → List Entry → List Entry
inside_of body finish es = filter (λ e. nat_lt body e.line && nat_lt e.line finish) es

abbrev pub steps_of : Types → List Entry → List Step
steps_of types [] = []
steps_of types (e ∷ es) = kind_steps types e e.kind ++ steps_of types es

-- ---- turns

-- the values of diagrams, by what was given at their sources
abbrev pub readers : List Port → Given → Readers
readers ports known d name = option_and_then (value_given known) (source_of ports d name)

abbrev pub is_known : Readers → Step → Bool
is_known r s = list_all (λ w. has_value (r w.0) w.1) s.reads

-- the first step whose wires all have values, and the others
abbrev pub next_step : Readers → List Step → Option (Step × List Step)
next_step r [] = None
next_step r (s ∷ ss) = if is_known r s then Some (s, ss) else option_map (λ t. (t.0, s ∷ t.1)) (next_step r ss)

-- what is given after so many turns
unfoldable pub turns : List Port → (many : ℕ) → List Step → Given → Given
turns ports zero ss known = known
turns ports (suc n) ss known =
    let r = readers ports known in option_map_or (λ t. turns ports n t.1 (known ++ t.0.gives r)) (next_step r ss) known

-- what is given at the sources of a body and of all diagrams inside it, where its structure's lines give these values inside
abbrev pub body_given : List Port → Types → List Entry → (body finish : ℕ) → Given → Given
body_given ports types es body finish inside =
    let steps = steps_of types (inside_of body finish es) in turns ports (length steps) steps inside

-- the values on the wires of a body
abbrev pub body_reader : List Port → Types → List Entry → (body finish : ℕ) → Given → Reader
body_reader ports types es body finish inside = readers ports (body_given ports types es body finish inside) body
