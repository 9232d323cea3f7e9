-- What the primitives of a body in place need: each, at whatever turn its inputs have values.
use Rattle.std.specs.Prelude.{◌≡◌, ℕ, ◌+◌, true, List, map, Option, Some, None, slice_get}
use Rattle.std.specs.List.{list_all}
use Rattle.g_values.specs.declared.value.Live.{Live}
use Rattle.g_values.specs.declared.value.Value.{Value, out-Value}
use Rattle.g_values.specs.declared.value.Value.TheOpen.{Value-F}
use Rattle.g_values.specs.declared.primitive.Primitive.{Primitive}
use Rattle.g_values.specs.Default.{default}
use Rattle.g_types.specs.declared.ty.Ty.{Ty}
use Rattle.g_prims_definitions.specs.Arithmetic.{nothing}
use Rattle.g_diagram.specs.declared.node.Tunnel.{Tunnel}
use Rattle.g_diagram.specs.Lines.{Wire, Entry, Apply}
use Rattle.g_border.specs.Readers.{Given, has_value, value_on}
use Rattle.g_border.specs.Lines.{entering, lines_inside, Reference, reference_in}
use Rattle.g_border.specs.Bodies.{Readers, readers, steps_of, inside_of, turns}
use Rattle.g_frames.specs.Contents.{Content}
use Rattle.g_frames.specs.Program.{FlatVi}
use Rattle.g_frames.specs.Effects.{Here}
use Rattle.g_objects.specs.Operations.{given_to}
use Rattle.g_effects.specs.Needs.{FitsPrimitive}

-- the values of a body's diagrams after so many turns, where its structure's lines give these values inside
abbrev pub after_turns : FlatVi → (body finish : ℕ) → (inside : Given) → (many : ℕ) → Readers
after_turns vi body finish inside n = readers vi.ports (turns vi.ports n (steps_of vi.types (inside_of body finish vi.entries)) inside)

-- a node is one of some
pub data IsAmong (e : Entry) (es : List Entry) : Type 0 where
  among : (k : ℕ) → slice_get es k ≡ Some e → IsAmong e es

abbrev pub BodyNeeds : FlatVi → (body finish : ℕ) → (inside : Given) → Type 0
BodyNeeds vi body finish inside =
    (n : ℕ) (e : Entry) (op : Primitive) (inputs outputs : List Wire) → IsAmong e (inside_of body finish vi.entries) → e.kind ≡ Apply op inputs outputs
    → list_all (has_value (after_turns vi body finish inside n e.diagram)) inputs ≡ true
    → FitsPrimitive op (map (value_on (after_turns vi body finish inside n e.diagram)) inputs)

-- ---- what goes into the body of a structure in place

-- what a reference of a type refers to: what its object holds, and the type's default where it names none
abbrev pub IsReferredBy : List Content → Ty → Option Live → Value → Type 0
IsReferredBy objects t None v = v ≡ default t
IsReferredBy objects t (Some l) v = (c : Content) × ((slice_get objects l.object ≡ Some c) × (given_to c l.serial ≡ Some v))

abbrev pub IsReferredAt : List Content → Value-F Value → Value → Type 0
IsReferredAt objects (Value-F.Cell c) v = IsReferredBy objects c.elem c.at v
IsReferredAt objects _ v = ⊥

-- what the reference of a structure refers to, if it has one
abbrev pub IsReferred : Here → Option Reference → Value → Type 0
IsReferred h None v = v ≡ nothing
IsReferred h (Some r) v = IsReferredAt h.objects (out-Value (value_on h.outer r.from)) v

abbrev pub PlaceNeeds : Here → Entry → List Tunnel → (body finish : ℕ) → Type 0
PlaceNeeds h e lines body finish =
    (v : Value) → IsReferred h (reference_in (e.line + 1) lines) v
    → BodyNeeds h.vi body finish (lines_inside (record (entering h.outer) { referred = v }) (e.line + 1) lines)
