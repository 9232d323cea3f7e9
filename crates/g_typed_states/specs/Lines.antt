-- The types of what border lines give and take, line by line, and panels.
use Rattle.std.specs.Prelude.{ℕ, ◌+◌, ◌≡◌, true, List, [], ◌∷◌, ◌++◌, Option, Some, None, slice_get}
use Rattle.g_types.specs.declared.ty.Ty.{Ty}
use Rattle.g_types.specs.declared.ty.Ty.TheVariants as ty
use Rattle.g_types.specs.Ty.{is_num}
use Rattle.g_values.specs.Spelled.{IsSpelled}
use Rattle.g_prims_definitions.specs.Kinds.{is_assignable, part, array_of}
use Rattle.g_diagram.specs.declared.node.Tunnel.{Tunnel}
use Rattle.g_diagram.specs.declared.node.Tunnel.TheVariants as line
use Rattle.g_diagram.specs.declared.panel.PanelItem.{PanelItem}
use Rattle.g_diagram.specs.declared.panel.PanelItem.TheVariants.{Control, Indicator}
use Rattle.g_diagram.specs.Lines.{Wire, Arm}
use Rattle.g_diagram.specs.Operands.{Inside, Outside}
use Rattle.g_typing.specs.Types.{Types, wire_type, wire_at, then_type, element, referred, whole as code_type}
use Rattle.g_typing.specs.Typing.{carried, result_type, next_result, control_types, indicator_types}
use Rattle.g_typing.specs.Literals.{is_default_of}
use Rattle.g_border.specs.Lines.{reference_in}
use Rattle.g_frames.specs.Panels.{cell_number}
use Rattle.g_frames.specs.Program.{FlatVi}
use Rattle.g_typed_states.specs.Places.{Among, HasTypeAt, HaveTypes, line_places}

-- the type of what stands at a wire can be assigned to a type
pub record IsAssignable (types : Types) (diagram : ℕ) (w : Wire) (t : Ty) : Type 0 where
  pub type : Ty
  pub known : wire_type types diagram w ≡ Some type
  pub fits : is_assignable type t ≡ true

-- ---- what lines give: the types of the values that g_border has of them, in order

-- inside, from diagram d, where before is the diagram of the frame before
abbrev pub types_inside : Types → (d : ℕ) → (before : Option ℕ) → Tunnel → List (Option Ty)
types_inside types d before (line.Tunnel outer inner) = wire_type types d outer ∷ []
types_inside types d before (line.Register initial inner next last) = wire_type types d initial ∷ []
types_inside types d before (line.Kept t inner next last) = Some t ∷ []
types_inside types d before (line.Last inner outer) = []
types_inside types d before (line.Gather inner outer) = []
types_inside types d before (line.Index array inner) = then_type (wire_type types d array) element ∷ []
types_inside types d before (line.Result outer default) = []
types_inside types d before (line.Carry earlier inner) = carried types before earlier ∷ []
types_inside types d before (line.Ref reference inner next same code) = then_type (wire_type types d reference) referred ∷ []
types_inside types d before (line.Element array index inner next outer) = then_type (wire_type types d array) element ∷ []
types_inside types d before (line.Field k cluster inner next outer) = then_type (wire_type types d cluster) (part k) ∷ []

-- outside, in diagram d, where the diagram inside is b
abbrev pub types_outside : Types → (d b : ℕ) → Tunnel → List (Option Ty)
types_outside types d b (line.Tunnel outer inner) = []
types_outside types d b (line.Register initial inner next last) = wire_type types d initial ∷ []
types_outside types d b (line.Kept t inner next last) = Some t ∷ []
types_outside types d b (line.Last inner outer) = wire_type types b inner ∷ []
types_outside types d b (line.Gather inner outer) = array_of (wire_type types b inner) ∷ []
types_outside types d b (line.Index array inner) = []
types_outside types d b (line.Result outer default) = []
types_outside types d b (line.Carry earlier inner) = []
types_outside types d b (line.Ref reference inner next same code) = []
types_outside types d b (line.Element array index inner next outer) = wire_type types d array ∷ []
types_outside types d b (line.Field k cluster inner next outer) = wire_type types d cluster ∷ []

-- of a structure in place: its reference and its code too
abbrev pub types_in_place : Types → (d b : ℕ) → Tunnel → List (Option Ty)
types_in_place types d b (line.Ref reference inner next same code) = wire_type types d reference ∷ Some code_type ∷ []
types_in_place types d b (line.Tunnel outer inner) = types_outside types d b (line.Tunnel outer inner)
types_in_place types d b (line.Register initial inner next last) = types_outside types d b (line.Register initial inner next last)
types_in_place types d b (line.Kept t inner next last) = types_outside types d b (line.Kept t inner next last)
types_in_place types d b (line.Last inner outer) = types_outside types d b (line.Last inner outer)
types_in_place types d b (line.Gather inner outer) = types_outside types d b (line.Gather inner outer)
types_in_place types d b (line.Index array inner) = types_outside types d b (line.Index array inner)
types_in_place types d b (line.Result outer default) = types_outside types d b (line.Result outer default)
types_in_place types d b (line.Carry earlier inner) = types_outside types d b (line.Carry earlier inner)
types_in_place types d b (line.Element array index inner next outer) = types_outside types d b (line.Element array index inner next outer)
types_in_place types d b (line.Field k cluster inner next outer) = types_outside types d b (line.Field k cluster inner next outer)

-- result k, from 0, of a case
abbrev pub types_of_result : Types → (k : ℕ) → List Arm → Tunnel → List (Option Ty)
types_of_result types k arms (line.Result outer default) = result_type types k arms ∷ []
types_of_result types k arms (line.Tunnel outer inner) = []
types_of_result types k arms (line.Register initial inner next last) = []
types_of_result types k arms (line.Kept t inner next last) = []
types_of_result types k arms (line.Last inner outer) = []
types_of_result types k arms (line.Gather inner outer) = []
types_of_result types k arms (line.Index array inner) = []
types_of_result types k arms (line.Carry earlier inner) = []
types_of_result types k arms (line.Ref reference inner next same code) = []
types_of_result types k arms (line.Element array index inner next outer) = []
types_of_result types k arms (line.Field field cluster inner next outer) = []

-- ---- what lines take

pub record FitsRegister (types : Types) (d b : ℕ) (initial next : Wire) : Type 0 where
  pub type : Ty
  pub known : wire_type types d initial ≡ Some type
  pub value : IsAssignable types b next type

pub record FitsKept (types : Types) (b : ℕ) (t : Ty) (next : Wire) : Type 0 where
  pub spelled : IsSpelled t
  pub value : IsAssignable types b next t

pub record FitsReference (types : Types) (d b : ℕ) (reference next : Wire) : Type 0 where
  pub type : Ty
  pub known : wire_type types d reference ≡ Some (ty.ValueRef type)
  pub value : IsAssignable types b next type

pub record FitsElement (types : Types) (d b : ℕ) (array index next : Wire) : Type 0 where
  pub type : Ty
  pub known : wire_type types d array ≡ Some (ty.Arr type)
  pub number : Ty
  pub indexed : wire_type types d index ≡ Some number
  pub is_number : is_num number ≡ true
  pub value : IsAssignable types b next type

pub record FitsField (types : Types) (d b k : ℕ) (cluster next : Wire) : Type 0 where
  pub whole : Ty
  pub known : wire_type types d cluster ≡ Some whole
  pub type : Ty
  pub part_is : part k whole ≡ Some type
  pub value : IsAssignable types b next type

-- what a line takes fits, by its form
abbrev pub LineFits : Types → (d b : ℕ) → Tunnel → Type 0
LineFits types d b (line.Tunnel outer inner) = Unit {0}
LineFits types d b (line.Register initial inner next last) = FitsRegister types d b initial next
LineFits types d b (line.Kept t inner next last) = FitsKept types b t next
LineFits types d b (line.Last inner outer) = Unit {0}
LineFits types d b (line.Gather inner outer) = Unit {0}
LineFits types d b (line.Index array inner) = Unit {0}
LineFits types d b (line.Result outer default) = Unit {0}
LineFits types d b (line.Carry earlier inner) = Unit {0}
LineFits types d b (line.Ref reference inner next same code) = FitsReference types d b reference next
LineFits types d b (line.Element array index inner next outer) = FitsElement types d b array index next
LineFits types d b (line.Field k cluster inner next outer) = FitsField types d b k cluster next

-- what a line gives outside as it stands inside has a type
abbrev pub IsLastKnown : Types → (b : ℕ) → Tunnel → Type 0
IsLastKnown types b (line.Tunnel outer inner) = Unit {0}
IsLastKnown types b (line.Register initial inner next last) = Unit {0}
IsLastKnown types b (line.Kept t inner next last) = Unit {0}
IsLastKnown types b (line.Last inner outer) = (t : Ty) × (wire_type types b inner ≡ Some t)
IsLastKnown types b (line.Gather inner outer) = Unit {0}
IsLastKnown types b (line.Index array inner) = Unit {0}
IsLastKnown types b (line.Result outer default) = Unit {0}
IsLastKnown types b (line.Carry earlier inner) = Unit {0}
IsLastKnown types b (line.Ref reference inner next same code) = Unit {0}
IsLastKnown types b (line.Element array index inner next outer) = Unit {0}
IsLastKnown types b (line.Field k cluster inner next outer) = Unit {0}

-- ---- which lines a structure has

abbrev pub IsLoopLine : Tunnel → Type 0
IsLoopLine (line.Tunnel outer inner) = Unit {0}
IsLoopLine (line.Register initial inner next last) = Unit {0}
IsLoopLine (line.Kept t inner next last) = Unit {0}
IsLoopLine (line.Last inner outer) = Unit {0}
IsLoopLine (line.Gather inner outer) = Unit {0}
IsLoopLine (line.Index array inner) = Unit {0}
IsLoopLine (line.Result outer default) = ⊥
IsLoopLine (line.Carry earlier inner) = ⊥
IsLoopLine (line.Ref reference inner next same code) = ⊥
IsLoopLine (line.Element array index inner next outer) = ⊥
IsLoopLine (line.Field k cluster inner next outer) = ⊥

abbrev pub IsCaseLine : Tunnel → Type 0
IsCaseLine (line.Tunnel outer inner) = Unit {0}
IsCaseLine (line.Register initial inner next last) = ⊥
IsCaseLine (line.Kept t inner next last) = ⊥
IsCaseLine (line.Last inner outer) = ⊥
IsCaseLine (line.Gather inner outer) = ⊥
IsCaseLine (line.Index array inner) = ⊥
IsCaseLine (line.Result outer default) = Unit {0}
IsCaseLine (line.Carry earlier inner) = ⊥
IsCaseLine (line.Ref reference inner next same code) = ⊥
IsCaseLine (line.Element array index inner next outer) = ⊥
IsCaseLine (line.Field k cluster inner next outer) = ⊥

abbrev pub IsFrameLine : Tunnel → Type 0
IsFrameLine (line.Tunnel outer inner) = Unit {0}
IsFrameLine (line.Register initial inner next last) = ⊥
IsFrameLine (line.Kept t inner next last) = ⊥
IsFrameLine (line.Last inner outer) = Unit {0}
IsFrameLine (line.Gather inner outer) = ⊥
IsFrameLine (line.Index array inner) = ⊥
IsFrameLine (line.Result outer default) = ⊥
IsFrameLine (line.Carry earlier inner) = Unit {0}
IsFrameLine (line.Ref reference inner next same code) = ⊥
IsFrameLine (line.Element array index inner next outer) = ⊥
IsFrameLine (line.Field k cluster inner next outer) = ⊥

abbrev pub IsPlaceLine : Tunnel → Type 0
IsPlaceLine (line.Tunnel outer inner) = Unit {0}
IsPlaceLine (line.Register initial inner next last) = ⊥
IsPlaceLine (line.Kept t inner next last) = ⊥
IsPlaceLine (line.Last inner outer) = Unit {0}
IsPlaceLine (line.Gather inner outer) = ⊥
IsPlaceLine (line.Index array inner) = ⊥
IsPlaceLine (line.Result outer default) = ⊥
IsPlaceLine (line.Carry earlier inner) = ⊥
IsPlaceLine (line.Ref reference inner next same code) = Unit {0}
IsPlaceLine (line.Element array index inner next outer) = Unit {0}
IsPlaceLine (line.Field k cluster inner next outer) = Unit {0}

-- each of some lines
abbrev pub AllLines : (Tunnel → Type 0) → List Tunnel → Type 0
AllLines P [] = Unit {0}
AllLines P (t ∷ ts) = P t × AllLines P ts

-- ---- lines from one on

abbrev pub LinesInside : FlatVi → (d : ℕ) → (before : Option ℕ) → (line : ℕ) → List Tunnel → Type 0
LinesInside vi d before l [] = Unit {0}
LinesInside vi d before l (t ∷ ts) = HaveTypes vi (line_places Inside l t) (types_inside vi.types d before t) × LinesInside vi d before (l + 1) ts

-- where a line gives these types outside
abbrev pub LinesOutside : FlatVi → (given : Tunnel → List (Option Ty)) → (line : ℕ) → List Tunnel → Type 0
LinesOutside vi given l [] = Unit {0}
LinesOutside vi given l (t ∷ ts) = HaveTypes vi (line_places Outside l t) (given t) × LinesOutside vi given (l + 1) ts

abbrev pub LinesFit : Types → (d b : ℕ) → List Tunnel → Type 0
LinesFit types d b [] = Unit {0}
LinesFit types d b (t ∷ ts) = LineFits types d b t × LinesFit types d b ts

-- the results of a case, where that of the first line on has number k
abbrev pub ResultsOutside : FlatVi → (k : ℕ) → List Arm → (line : ℕ) → List Tunnel → Type 0
ResultsOutside vi k arms l [] = Unit {0}
ResultsOutside vi k arms l (t ∷ ts) =
    HaveTypes vi (line_places Outside l t) (types_of_result vi.types k arms t) × ResultsOutside vi (next_result t k) arms (l + 1) ts

-- what a branch gives for result k can be assigned to the type of the result
abbrev pub GivesFit : Types → (k : ℕ) → List Arm → Type 0
GivesFit types k arms =
    (t : Ty) → result_type types k arms ≡ Some t → (arm : Arm) → Among arm arms → (name : List ℕ) → wire_at arm.gives k ≡ Some name
    → IsAssignable types arm.body (Some name) t

-- a structure in place has one reference at most
abbrev pub HasOneReference : List Tunnel → Type 0
HasOneReference [] = Unit {0}
HasOneReference (line.Ref reference inner next same code ∷ ts) = (l : ℕ) → reference_in l ts ≡ None
HasOneReference (line.Tunnel outer inner ∷ ts) = HasOneReference ts
HasOneReference (line.Register initial inner next last ∷ ts) = HasOneReference ts
HasOneReference (line.Kept t inner next last ∷ ts) = HasOneReference ts
HasOneReference (line.Last inner outer ∷ ts) = HasOneReference ts
HasOneReference (line.Gather inner outer ∷ ts) = HasOneReference ts
HasOneReference (line.Index array inner ∷ ts) = HasOneReference ts
HasOneReference (line.Result outer default ∷ ts) = HasOneReference ts
HasOneReference (line.Carry earlier inner ∷ ts) = HasOneReference ts
HasOneReference (line.Element array index inner next outer ∷ ts) = HasOneReference ts
HasOneReference (line.Field k cluster inner next outer ∷ ts) = HasOneReference ts

-- ---- panels

-- the type of a cell of a panel object, by its number
abbrev pub cell_type : List PanelItem → (name : List ℕ) → Option Ty
cell_type items name = slice_get (control_types items ++ indicator_types items) (cell_number items name)

-- what each panel object has at first is of its type
abbrev pub IsItemProper : PanelItem → Type 0
IsItemProper (Control name t required given out) = IsSpelled t × (is_default_of given t ≡ true)
IsItemProper (Indicator name t input) = IsSpelled t

-- the names at the controls' places have their types
abbrev pub ControlsTyped : FlatVi → (line : ℕ) → List PanelItem → Type 0
ControlsTyped vi l [] = Unit {0}
ControlsTyped vi l (Control name t required given out ∷ items) = HasTypeAt vi (record { line = l; operand = 1 }) (Some t) × ControlsTyped vi (l + 1) items
ControlsTyped vi l (Indicator name t w ∷ items) = ControlsTyped vi (l + 1) items

-- what a wired input of a call has can be assigned to the type of its control
abbrev pub ArgumentFits : Types → (diagram : ℕ) → Wire → Ty → Type 0
ArgumentFits types d None t = Unit {0}
ArgumentFits types d (Some name) t = IsAssignable types d (Some name) t

abbrev pub ArgumentsFit : Types → (diagram : ℕ) → (inputs : List Wire) → List PanelItem → Type 0
ArgumentsFit types d inputs [] = Unit {0}
ArgumentsFit types d [] (Control name t required given out ∷ items) = ArgumentsFit types d [] items
ArgumentsFit types d (w ∷ ws) (Control name t required given out ∷ items) = ArgumentFits types d w t × ArgumentsFit types d ws items
ArgumentsFit types d inputs (Indicator name t w ∷ items) = ArgumentsFit types d inputs items
