-- What firings need of the values on wires and of the objects. In a run of an accepted hierarchy it always holds, since all of it follows from
-- types.
use Rattle.std.specs.Prelude.{◌≡◌, ℕ, ◌+◌, true, List, [], map, Option, Some, None, is_some, slice_get}
use Rattle.std.specs.List.{All}
use Rattle.g_types.specs.declared.ty.Ty.{Ty}
use Rattle.g_values.specs.declared.value.Live.{Live}
use Rattle.g_values.specs.declared.value.Value.{Value, out-Value}
use Rattle.g_values.specs.declared.value.Value.TheOpen.{Value-F}
use Rattle.g_values.specs.declared.primitive.Primitive.{Primitive}
use Rattle.g_values.specs.Coerce.{coerced}
use Rattle.g_values.specs.Proper.{IsProper}
use Rattle.g_values.specs.Typed.{IsOfType}
use Rattle.g_prims_definitions.specs.Conditions.{HasRow}
use Rattle.g_operations.specs.declared.shared.SharedOp.{SharedOp}
use Rattle.g_operations.specs.declared.shared.SharedOp.TheVariants as shared
use Rattle.g_diagram.specs.declared.node.Tunnel.{Tunnel}
use Rattle.g_diagram.specs.Lines.{Wire, Entry, Kind, Const, Apply, Shows, Shared, Obtain, Read, Write, Call, Loop, Case, Sequence, InPlace}
use Rattle.g_typing.specs.Typing.{panel_type}
use Rattle.g_shared.specs.Cells.{CellState}
use Rattle.g_shared.specs.Queues.{QueueState}
use Rattle.g_border.specs.Readers.{value_on}
use Rattle.g_border.specs.Lines.{Reference, reference_in}
use Rattle.g_border.specs.Cases.{coerced_to}
use Rattle.g_frames.specs.Contents as content
use Rattle.g_frames.specs.Contents.{Content}
use Rattle.g_frames.specs.Program.{FlatVi, vi_at, numbered, cell_object}
use Rattle.g_frames.specs.Panels.{arguments}
use Rattle.g_frames.specs.Effects.{Here}
use Rattle.g_frames.specs.Operations.{input_at}
use Rattle.g_frames.specs.InPlace.{place_body}
use Rattle.g_refs.specs.Cell.{value_for}

-- the inputs of a primitive: proper values whose types have a row
pub record FitsPrimitive (op : Primitive) (inputs : List Value) : Type 0 where
  pub proper : All IsProper inputs
  pub row : HasRow op inputs

-- what a reference names is one of the objects
abbrev pub NamesObject : List Content → Option Live → Type 0
NamesObject objects None = Unit {0}
NamesObject objects (Some l) = is_some (slice_get objects l.object) ≡ true

-- where a value is a reference
abbrev pub NamesObjectIn : List Content → Value-F Value → Type 0
NamesObjectIn objects (Value-F.Queue r) = NamesObject objects r.at
NamesObjectIn objects (Value-F.Cell r) = NamesObject objects r.at
NamesObjectIn objects _ = Unit {0}

-- what is put into a queue is of the type of its items, coerced to the type of the reference
abbrev pub FitsQueue : List Content → (put : Value) → Value-F Value → Type 0
FitsQueue objects put (Value-F.Queue r) =
    (l : Live) (q : QueueState) → r.at ≡ Some l → slice_get objects l.object ≡ Some (content.Queue q) → IsOfType q.item (coerced put r.elem)
FitsQueue objects put _ = Unit {0}

-- what a new reference refers to is of its place's type
abbrev pub FitsCell : Here → (line : ℕ) → Value → Type 0
FitsCell h l v = (c : CellState) → slice_get h.objects (cell_object h.program h.frame.space l) ≡ Some (content.Cell c) → IsOfType c.content v

-- an operation on a queue or a reference, with these inputs
pub record FitsShared (h : Here) (line : ℕ) (op : SharedOp) (vs : List Value) : Type 0 where
  pub names : NamesObjectIn h.objects (out-Value (input_at vs 0))
  pub queue : op ≡ shared.Enqueue → FitsQueue h.objects (input_at vs 1) (out-Value (input_at vs 0))
  pub cell : op ≡ shared.NewRef → FitsCell h line (input_at vs 0)

-- the arguments of a call are proper
abbrev pub FitsCall : Here → (name : List ℕ) → (inputs : List Wire) → Type 0
FitsCall h name inputs = (called : FlatVi) → vi_at h.program (numbered h.program.vis name) ≡ Some called → All IsProper (arguments h.outer inputs called.panel)

-- what a body in place makes of what it gets by a reference is of the type of what the reference names, and its outputs are proper
pub record FitsPlaceOf (h : Here) (e : Entry) (lines : List Tunnel) (body finish : ℕ) (r : Reference) (t : Ty) (l : Live) : Type 0 where
  pub names : NamesObject h.objects (Some l)
  pub value : (c : CellState) → slice_get h.objects l.object ≡ Some (content.Cell c) → IsOfType c.content (place_body h e lines body finish r.next t (value_for c l.serial) []).0
  pub outputs : (c : CellState) → slice_get h.objects l.object ≡ Some (content.Cell c) → All IsProper (place_body h e lines body finish r.next t (value_for c l.serial) []).1

abbrev pub FitsPlaceBy : Here → Entry → List Tunnel → (body finish : ℕ) → Reference → Value-F Value → Type 0
FitsPlaceBy h e lines body finish r (Value-F.Cell c) = (l : Live) → c.at ≡ Some l → FitsPlaceOf h e lines body finish r c.elem l
FitsPlaceBy h e lines body finish r _ = Unit {0}

abbrev pub FitsPlace : Here → Entry → List Tunnel → (body finish : ℕ) → Option Reference → Type 0
FitsPlace h e lines body finish None = Unit {0}
FitsPlace h e lines body finish (Some r) = FitsPlaceBy h e lines body finish r (out-Value (value_on h.outer r.from))

-- what a firing of a node needs, by its kind
abbrev pub Needs : Here → Entry → Kind → Type 0
Needs h e (Const t literal out) = Unit {0}
Needs h e (Apply op inputs outputs) = FitsPrimitive op (map (value_on h.outer) inputs)
Needs h e (Shows name t w) = IsProper (coerced (value_on h.outer w) t)
Needs h e (Shared op inputs outputs) = FitsShared h e.line op (map (value_on h.outer) inputs)
Needs h e (Obtain name size item out) = Unit {0}
Needs h e (Read name out) = Unit {0}
Needs h e (Write name w) = IsProper (coerced_to (panel_type h.vi.panel name) (value_on h.outer w))
Needs h e (Call name inputs outputs) = FitsCall h name inputs
Needs h e (Loop count stop iteration lines body) = Unit {0}
Needs h e (Case selector lines arms) = Unit {0}
Needs h e (Sequence parts) = Unit {0}
Needs h e (InPlace lines body finish) = FitsPlace h e lines body finish (reference_in (e.line + 1) lines)
