-- What an accepted hierarchy's program has, as far as the typing of states needs it: of each VI and each of its nodes, which types its wires have
-- and that they fit, and what each data space has of each node.
use Rattle.std.specs.Prelude.{ℕ, ◌+◌, ◌≡◌, ◌≤◌, ◌==◌, true, ◌&&◌, List, [], ◌∷◌, ◌++◌, map, Option, Some, None, is_some, slice_get}
use Rattle.g_types.specs.declared.ty.Ty.{Ty}
use Rattle.g_types.specs.declared.ty.Ty.TheVariants as ty
use Rattle.g_values.specs.declared.primitive.Primitive.{Primitive}
use Rattle.g_values.specs.declared.value.Value.{Value}
use Rattle.g_values.specs.Spelled.{IsSpelled}
use Rattle.g_values.specs.Typed.{IsOfType}
use Rattle.g_prims_definitions.specs.Rows.{row_of}
use Rattle.g_operations.specs.declared.shared.SharedOp.{SharedOp}
use Rattle.g_operations.specs.declared.shared.SharedOp.TheVariants as shared
use Rattle.g_diagram.specs.declared.node.Tunnel.{Tunnel}
use Rattle.g_diagram.specs.declared.panel.Lit.{Lit}
use Rattle.g_diagram.specs.declared.panel.PanelItem.{PanelItem}
use Rattle.g_diagram.specs.Lines.{Wire, Arm, Part, Entry, Kind, Const, Apply, Shows, Shared, Obtain, Read, Write, Call, Loop, Case, Sequence, InPlace}
use Rattle.g_diagram.specs.Operands.{Inside, loop_header}
use Rattle.g_typing.specs.Types.{Types, wire_type, wire_types, wire_at, queued, whole}
use Rattle.g_typing.specs.Typing.{panel_type, indicator_types, shared_types, next_result}
use Rattle.g_typing.specs.Rows.{fits_shared}
use Rattle.g_typing.specs.Literals.{is_value_of}
use Rattle.g_hier.specs.declared.linked.Space.{Space}
use Rattle.g_shared.specs.Queues.{IsSize}
use Rattle.g_border.specs.Readers.{source_of, sources_on, place_all}
use Rattle.g_border.specs.Cases.{chosen}
use Rattle.g_border.specs.Loops.{kept_registers}
use Rattle.g_frames.specs.declared.program.QueueName.{QueueName}
use Rattle.g_frames.specs.declared.program.CellPlace.{CellPlace}
use Rattle.g_frames.specs.declared.program.KeptPlace.{KeptPlace}
use Rattle.g_frames.specs.Program.{FlatVi, Program, vi_at, numbered, place_where, called_space, queue_object, kept_number}
use Rattle.g_frames.specs.State.{clone_count}
use Rattle.g_typed_states.specs.Places.{Among, HaveTypes, node_places, lines_places, control_places, IsSupplied}
use Rattle.g_typed_states.specs.Lines.{IsAssignable, IsLoopLine, IsCaseLine, IsFrameLine, IsPlaceLine, IsLastKnown, AllLines, types_outside, types_in_place, LinesInside, LinesOutside, LinesFit, ResultsOutside, GivesFit, HasOneReference, cell_type, IsItemProper, ControlsTyped, ArgumentsFit}
use Rattle.g_typed_states.specs.Bodies.{IsWorkedOut}

-- ---- nodes, kind by kind

pub record AcceptsConst (vi : FlatVi) (e : Entry) (t : Ty) (literal : Lit) : Type 0 where
  pub spelled : IsSpelled t
  pub value : is_value_of literal t ≡ true
  pub places : HaveTypes vi (node_places e) (Some t ∷ [])

pub record AcceptsApply (vi : FlatVi) (e : Entry) (op : Primitive) (inputs : List Wire) : Type 0 where
  pub takes : List Ty
  pub known : wire_types vi.types e.diagram inputs ≡ Some takes
  pub gives : List Ty
  pub row : row_of op takes ≡ Some gives
  pub places : HaveTypes vi (node_places e) (map Some gives)

-- a write to a cell of a type
pub record AcceptsWrite (vi : FlatVi) (e : Entry) (name : List ℕ) (t : Ty) (w : Wire) : Type 0 where
  pub cell : cell_type vi.panel name ≡ Some t
  pub value : IsAssignable vi.types e.diagram w t

-- what is put into a queue
abbrev pub PutFits : Types → (diagram : ℕ) → SharedOp → (first : Ty) → (second : Wire) → Type 0
PutFits types d shared.Enqueue q w = (item : Ty) → queued q ≡ Some item → IsAssignable types d w item
PutFits types d shared.Dequeue q w = Unit {0}
PutFits types d shared.Release q w = Unit {0}
PutFits types d shared.Size q w = Unit {0}
PutFits types d shared.NewRef t w = Unit {0}
PutFits types d shared.DelRef r w = Unit {0}

pub record AcceptsShared (vi : FlatVi) (e : Entry) (op : SharedOp) (inputs : List Wire) : Type 0 where
  pub first : Ty
  pub known : wire_type vi.types e.diagram (wire_at inputs 0) ≡ Some first
  pub fits : fits_shared op first ≡ true
  pub put : PutFits vi.types e.diagram op first (wire_at inputs 1)
  pub gives : List Ty
  pub row : shared_types op first ≡ Some gives
  pub places : HaveTypes vi (node_places e) (map Some gives)

pub record AcceptsObtain (vi : FlatVi) (e : Entry) (item : Ty) : Type 0 where
  pub spelled : IsSpelled (ty.QueueRef item)
  pub places : HaveTypes vi (node_places e) (Some (ty.QueueRef item) ∷ [])

pub record AcceptsRead (vi : FlatVi) (e : Entry) (name : List ℕ) : Type 0 where
  pub type : Ty
  pub cell : cell_type vi.panel name ≡ Some type
  pub places : HaveTypes vi (node_places e) (Some type ∷ [])

pub record AcceptsLocal (vi : FlatVi) (e : Entry) (name : List ℕ) (w : Wire) : Type 0 where
  pub type : Ty
  pub is : panel_type vi.panel name ≡ Some type
  pub writes : AcceptsWrite vi e name type w

pub record AcceptsCall (p : Program) (vi : FlatVi) (e : Entry) (name : List ℕ) (inputs : List Wire) : Type 0 where
  pub called : FlatVi
  pub is : vi_at p (numbered p.vis name) ≡ Some called
  pub inputs_fit : ArgumentsFit vi.types e.diagram inputs called.panel
  pub places : HaveTypes vi (node_places e) (map Some (indicator_types called.panel))

pub record AcceptsLoop (vi : FlatVi) (e : Entry) (count stop : Option Wire) (i : Wire) (lines : List Tunnel) (body : ℕ) : Type 0 where
  pub forms : AllLines IsLoopLine lines
  pub header : HaveTypes vi (place_all e.line (sources_on Inside 1 (loop_header count stop i))) (Some whole ∷ [])
  pub inside : LinesInside vi e.diagram None (e.line + 1) lines
  pub outside : LinesOutside vi (types_outside vi.types e.diagram body) (e.line + 1) lines
  pub fits : LinesFit vi.types e.diagram body lines
  pub supplied : IsSupplied vi body (place_all e.line (sources_on Inside 1 (loop_header count stop i)) ++ lines_places Inside (e.line + 1) lines)

-- what the branches of a case give for its results, where that of the first line has number k
abbrev pub AllGivesFit : Types → (k : ℕ) → List Arm → List Tunnel → Type 0
AllGivesFit types k arms [] = Unit {0}
AllGivesFit types k arms (t ∷ ts) = GivesFit types k arms × AllGivesFit types (next_result t k) arms ts

pub record AcceptsCase (vi : FlatVi) (e : Entry) (selector : Wire) (lines : List Tunnel) (arms : List Arm) : Type 0 where
  pub selects : Ty
  pub known : wire_type vi.types e.diagram selector ≡ Some selects
  -- each value of the selector's type has a branch
  pub covered : (v : Value) → IsOfType selects v → is_some (chosen v arms) ≡ true
  pub forms : AllLines IsCaseLine lines
  pub inside : LinesInside vi e.diagram None (e.line + 1) lines
  pub outside : ResultsOutside vi 0 arms (e.line + 1) lines
  pub gives : AllGivesFit vi.types 0 arms lines
  pub supplied : (arm : Arm) → Among arm arms → IsSupplied vi arm.body (lines_places Inside (e.line + 1) lines)

pub record AcceptsPart (vi : FlatVi) (d : ℕ) (before : Option ℕ) (part : Part) : Type 0 where
  pub forms : AllLines IsFrameLine part.lines
  pub inside : LinesInside vi d before (part.body + 1) part.lines
  pub outside : LinesOutside vi (types_outside vi.types d part.body) (part.body + 1) part.lines
  pub fits : LinesFit vi.types d part.body part.lines
  pub supplied : IsSupplied vi part.body (lines_places Inside (part.body + 1) part.lines)

-- the frames of a sequence, after the frame of diagram before
abbrev pub AcceptsParts : FlatVi → (d : ℕ) → (before : Option ℕ) → List Part → Type 0
AcceptsParts vi d before [] = Unit {0}
AcceptsParts vi d before (part ∷ parts) = AcceptsPart vi d before part × AcceptsParts vi d (Some part.body) parts

pub record AcceptsPlace (vi : FlatVi) (e : Entry) (lines : List Tunnel) (body finish : ℕ) : Type 0 where
  pub forms : AllLines IsPlaceLine lines
  pub inside : LinesInside vi e.diagram None (e.line + 1) lines
  pub outside : LinesOutside vi (types_in_place vi.types e.diagram body) (e.line + 1) lines
  pub fits : LinesFit vi.types e.diagram body lines
  pub lasts : AllLines (IsLastKnown vi.types body) lines
  pub one : HasOneReference lines
  pub worked_out : IsWorkedOut vi e lines body finish

abbrev pub AcceptsKind : Program → FlatVi → Entry → Kind → Type 0
AcceptsKind p vi e (Const t literal out) = AcceptsConst vi e t literal
AcceptsKind p vi e (Apply op inputs outputs) = AcceptsApply vi e op inputs
AcceptsKind p vi e (Shows name t w) = AcceptsWrite vi e name t w
AcceptsKind p vi e (Shared op inputs outputs) = AcceptsShared vi e op inputs
AcceptsKind p vi e (Obtain name size item out) = AcceptsObtain vi e item
AcceptsKind p vi e (Read name out) = AcceptsRead vi e name
AcceptsKind p vi e (Write name w) = AcceptsLocal vi e name w
AcceptsKind p vi e (Call name inputs outputs) = AcceptsCall p vi e name inputs
AcceptsKind p vi e (Loop count stop i lines body) = AcceptsLoop vi e count stop i lines body
AcceptsKind p vi e (Case selector lines arms) = AcceptsCase vi e selector lines arms
AcceptsKind p vi e (Sequence parts) = AcceptsParts vi e.diagram None parts
AcceptsKind p vi e (InPlace lines body finish) = AcceptsPlace vi e lines body finish

-- ---- VIs

pub record IsAcceptedVi (p : Program) (vi : FlatVi) : Type 0 where
  -- the types of names are such as a listing can write
  pub spelled : (d : ℕ) (name : List ℕ) (t : Ty) → vi.types d name ≡ Some t → IsSpelled t
  -- a name with a type has a source
  pub sourced : (d : ℕ) (name : List ℕ) (t : Ty) → vi.types d name ≡ Some t → is_some (source_of vi.ports d name) ≡ true
  pub panel : (item : PanelItem) → Among item vi.panel → IsItemProper item
  pub controls : ControlsTyped vi 1 vi.panel
  pub supplied : IsSupplied vi 0 (control_places 1 vi.panel)
  pub nodes : (e : Entry) → Among e vi.entries → AcceptsKind p vi e e.kind
  pub clones : (1 ≤ clone_count vi.clones) × (clone_count vi.clones ≤ 64)

-- ---- what a data space has of a node

-- the cell of a `newref` line, among those of the program
pub record HasCell (p : Program) (space : ℕ) (types : Types) (e : Entry) (content : Wire) : Type 0 where
  pub cell : CellPlace
  pub is : slice_get p.cells (place_where (λ c. (c.space == space) && (c.line == e.line)) p.cells) ≡ Some cell
  pub type : wire_type types e.diagram content ≡ Some cell.content

pub record HasQueue (p : Program) (name : List ℕ) (item : Ty) : Type 0 where
  pub queue : QueueName
  pub is : slice_get p.queues (queue_object p name) ≡ Some queue
  pub type : queue.item ≡ item

pub record HasKept (p : Program) (space line : ℕ) (t : Ty) : Type 0 where
  pub register : KeptPlace
  pub is : slice_get p.kept (kept_number p space line) ≡ Some register
  pub type : register.content ≡ t

-- the data space that a clone of a called VI is
pub record HasSpace (p : Program) (vi space : ℕ) : Type 0 where
  pub found : Space
  pub is : slice_get p.spaces space ≡ Some found
  pub vi_is : found.vi ≡ vi

abbrev pub HasShared : Program → (space : ℕ) → Types → Entry → SharedOp → (inputs : List Wire) → Type 0
HasShared p space types e shared.NewRef inputs = HasCell p space types e (wire_at inputs 0)
HasShared p space types e shared.Enqueue inputs = Unit {0}
HasShared p space types e shared.Dequeue inputs = Unit {0}
HasShared p space types e shared.Release inputs = Unit {0}
HasShared p space types e shared.Size inputs = Unit {0}
HasShared p space types e shared.DelRef inputs = Unit {0}

abbrev pub HasInSpace : Program → (space : ℕ) → Types → Entry → Kind → Type 0
HasInSpace p space types e (Const t literal out) = Unit {0}
HasInSpace p space types e (Apply op inputs outputs) = Unit {0}
HasInSpace p space types e (Shows name t w) = Unit {0}
HasInSpace p space types e (Shared op inputs outputs) = HasShared p space types e op inputs
HasInSpace p space types e (Obtain name size item out) = HasQueue p name item
HasInSpace p space types e (Read name out) = Unit {0}
HasInSpace p space types e (Write name w) = Unit {0}
HasInSpace p space types e (Call name inputs outputs) =
    (called : FlatVi) → vi_at p (numbered p.vis name) ≡ Some called → (clone entered : ℕ)
    → called_space p called.clones (numbered p.vis name) space e.line clone ≡ Some entered → HasSpace p (numbered p.vis name) entered
HasInSpace p space types e (Loop count stop i lines body) =
    (l : ℕ) (t : Ty) → Among (l, t) (kept_registers (e.line + 1) lines) → HasKept p space l t
HasInSpace p space types e (Case selector lines arms) = Unit {0}
HasInSpace p space types e (Sequence parts) = Unit {0}
HasInSpace p space types e (InPlace lines body finish) = Unit {0}

pub record IsAcceptedSpace (p : Program) (number : ℕ) (space : Space) : Type 0 where
  pub vi : FlatVi
  pub is : vi_at p space.vi ≡ Some vi
  pub nodes : (e : Entry) → Among e vi.entries → HasInSpace p number vi.types e e.kind

-- ---- programs

pub record IsAccepted (p : Program) : Type 0 where
  pub vis : (v : ℕ) (vi : FlatVi) → vi_at p v ≡ Some vi → IsAcceptedVi p vi
  pub spaces : (k : ℕ) (s : Space) → slice_get p.spaces k ≡ Some s → IsAcceptedSpace p k s
  -- the first data space is that of the VI that runs
  pub main : HasSpace p p.main 0
  pub queues : (q : QueueName) → Among q p.queues → IsSpelled (ty.QueueRef q.item) × IsSize q.size
  pub cells : (c : CellPlace) → Among c p.cells → IsSpelled (ty.ValueRef c.content)
  pub kept : (k : KeptPlace) → Among k p.kept → IsSpelled k.content
  pub pools : (v : ℕ) → Among v p.pools → is_some (vi_at p v) ≡ true
