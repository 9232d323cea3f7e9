-- The steps of a body in place, by the wires that each reads and the places to which it gives values, and an order in which they can be done.
use Rattle.std.specs.Prelude.{ℕ, ◌+◌, ◌≡◌, ◌⊎◌, List, [], ◌∷◌, ◌++◌, Some, None}
use Rattle.g_diagram.specs.declared.node.Tunnel.{Tunnel}
use Rattle.g_diagram.specs.Lines.{Wire, Entry, Kind, Const, Apply, Shows, Shared, Obtain, Read, Write, Call, Loop, Case, Sequence, InPlace}
use Rattle.g_diagram.specs.Operands.{Inside, Outside}
use Rattle.g_border.specs.declared.place.WireSource.{WireSource}
use Rattle.g_border.specs.Readers.{source_of, inputs_of, node_lines, wires_taken_on}
use Rattle.g_border.specs.Lines.{reference_in}
use Rattle.g_border.specs.Bodies.{in_diagram, arms_read, inside_of}
use Rattle.g_frames.specs.Program.{FlatVi}
use Rattle.g_typed_states.specs.Places.{Among, node_places, lines_places}

-- what a step reads, each wire with its diagram, and where it gives
pub record BodyStep : Type 0 where
  pub reads : List (ℕ × Wire)
  pub places : List WireSource

-- the steps of a node in a body, alike to those of g_border
abbrev pub kind_body_steps : Entry → Kind → List BodyStep
kind_body_steps e (Const t literal out) = record { reads = []; places = node_places e } ∷ []
kind_body_steps e (Apply op inputs outputs) = record { reads = in_diagram e.diagram inputs; places = node_places e } ∷ []
kind_body_steps e (Case selector lines arms) =
    record { reads = in_diagram e.diagram (inputs_of e); places = lines_places Inside (e.line + 1) lines }
    ∷ record { reads = (e.diagram, selector) ∷ arms_read arms; places = lines_places Outside (e.line + 1) lines } ∷ []
kind_body_steps e (InPlace lines body finish) =
    record { reads = in_diagram e.diagram (inputs_of e); places = lines_places Inside (e.line + 1) lines }
    ∷ record {
      reads = in_diagram e.diagram (inputs_of e) ++ in_diagram body (wires_taken_on Inside (node_lines e));
      places = lines_places Outside (e.line + 1) lines;
    } ∷ []
kind_body_steps e (Shows name t w) = []
kind_body_steps e (Shared op inputs outputs) = []
kind_body_steps e (Obtain name size item out) = []
kind_body_steps e (Read name out) = []
kind_body_steps e (Write name w) = []
kind_body_steps e (Call name inputs outputs) = []
kind_body_steps e (Loop count stop i lines body) = []
kind_body_steps e (Sequence parts) = []

abbrev pub body_steps : List Entry → List BodyStep
body_steps [] = []
body_steps (e ∷ es) = kind_body_steps e e.kind ++ body_steps es

abbrev pub steps_in : FlatVi → (body finish : ℕ) → List BodyStep
steps_in vi body finish = body_steps (inside_of body finish vi.entries)

-- step t gives to a place at which a name that step s reads has its source
pub record Feeds (vi : FlatVi) (t s : BodyStep) : Type 0 where
  pub diagram : ℕ
  pub name : List ℕ
  pub source : WireSource
  pub reads : Among (diagram, Some name) s.reads
  pub is : source_of vi.ports diagram name ≡ Some source
  pub gives : Among source t.places

-- all chains of steps that feed a step end
pub data Comes (vi : FlatVi) (steps : List BodyStep) : BodyStep → Type 0 where
  comes : (s : BodyStep) → ((t : BodyStep) → Among t steps → Feeds vi t s → Comes vi steps t) → Comes vi steps s

-- a place to which some step gives
pub record IsStepPlace (steps : List BodyStep) (w : WireSource) : Type 0 where
  pub step : BodyStep
  pub stands : Among step steps
  pub gives : Among w step.places

-- a name has its source at a place to which the structure's lines give inside, or at one to which a step gives
pub record IsFed (vi : FlatVi) (inside : List WireSource) (steps : List BodyStep) (diagram : ℕ) (name : List ℕ) : Type 0 where
  pub source : WireSource
  pub is : source_of vi.ports diagram name ≡ Some source
  pub fed : Among source inside ⊎ IsStepPlace steps source

-- a node in a body has no reference of its own
abbrev pub IsUnreferred : Entry → Kind → Type 0
IsUnreferred e (InPlace lines body finish) = reference_in (e.line + 1) lines ≡ None
IsUnreferred e (Const t literal out) = Unit {0}
IsUnreferred e (Apply op inputs outputs) = Unit {0}
IsUnreferred e (Shows name t w) = Unit {0}
IsUnreferred e (Shared op inputs outputs) = Unit {0}
IsUnreferred e (Obtain name size item out) = Unit {0}
IsUnreferred e (Read name out) = Unit {0}
IsUnreferred e (Write name w) = Unit {0}
IsUnreferred e (Call name inputs outputs) = Unit {0}
IsUnreferred e (Loop count stop i lines body) = Unit {0}
IsUnreferred e (Case selector lines arms) = Unit {0}
IsUnreferred e (Sequence parts) = Unit {0}

-- a body in place can be worked out, step by step
pub record IsWorkedOut (vi : FlatVi) (e : Entry) (lines : List Tunnel) (body finish : ℕ) : Type 0 where
  -- what steps read
  pub fed : (s : BodyStep) → Among s (steps_in vi body finish) → (d : ℕ) (name : List ℕ) → Among (d, Some name) s.reads
      → IsFed vi (lines_places Inside (e.line + 1) lines) (steps_in vi body finish) d name
  pub in_turn : (s : BodyStep) → Among s (steps_in vi body finish) → Comes vi (steps_in vi body finish) s
  -- what the structure's lines read: each name of the body
  pub names : (name : List ℕ) (w : WireSource) → source_of vi.ports body name ≡ Some w
      → Among w (lines_places Inside (e.line + 1) lines) ⊎ IsStepPlace (steps_in vi body finish) w
  pub unreferred : (n : Entry) → Among n (inside_of body finish vi.entries) → IsUnreferred n n.kind
