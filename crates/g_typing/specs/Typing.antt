-- What each line gives to its sources, and the typing of a VI: each source has the type that its line gives it from the types of its inputs,
-- and none where that gives none.
use Rattle.std.specs.Prelude.{ℕ, ◌+◌, ◌≡◌, ◌⊎◌, Bool, true, false, List, [], ◌∷◌, ◌++◌, if◌then◌else◌, Option, Some, None, is_some, All}
use Rattle.std.specs.Str.{bytes_eq}
use Rattle.g_types.specs.declared.ty.Ty.{Ty}
use Rattle.g_types.specs.declared.ty.Ty.TheVariants as ty
use Rattle.g_prims_definitions.specs.Kinds.{part, array_of}
use Rattle.g_prims_definitions.specs.Rows.{row_of}
use Rattle.g_values.specs.declared.primitive.Primitive.{Primitive}
use Rattle.g_operations.specs.declared.shared.SharedOp.{SharedOp}
use Rattle.g_operations.specs.declared.shared.SharedOp.TheVariants as shared
use Rattle.g_diagram.specs.declared.node.Tunnel.{Tunnel}
use Rattle.g_diagram.specs.declared.node.Tunnel.TheVariants as line
use Rattle.g_diagram.specs.declared.panel.PanelItem.{PanelItem}
use Rattle.g_diagram.specs.declared.panel.PanelItem.TheVariants.{Control, Indicator}
use Rattle.g_diagram.specs.declared.hierarchy.Vi.{Vi}
use Rattle.g_diagram.specs.Lines.{Wire, Arm, Part, Entry, Kind, Const, Apply, Shows, Shared, Obtain, Read, Write, Call, Loop, Case, Sequence, InPlace, entries_of}
use Rattle.g_diagram.specs.Ports.{first_vi}
use Rattle.g_typing.specs.Types.{Types, wire_type, wire_types, or_unwired, wire_at, then_type, element, queued, referred, whole}
use Rattle.g_typing.specs.Rows.{has_rows}

-- a named source with what its line gives it
pub record Given : Type 0 where
  pub diagram : ℕ
  pub name : List ℕ
  pub type : Option Ty

-- `_` is no source
abbrev pub given : (diagram : ℕ) → Wire → Option Ty → List Given
given d None t = []
given d (Some name) t = record { diagram = d; name = name; type = t } ∷ []

-- types to outputs, one after another; an output without one is unknown
abbrev pub given_each : (diagram : ℕ) → List Wire → List Ty → List Given
given_each d [] ts = []
given_each d (w ∷ ws) [] = given d w None ++ given_each d ws []
given_each d (w ∷ ws) (t ∷ ts) = given d w (Some t) ++ given_each d ws ts

abbrev pub known_or_none : Option (List Ty) → List Ty
known_or_none None = []
known_or_none (Some ts) = ts

-- a type, where the node breaks no rule 16
abbrev pub kept_if : Bool → Option Ty → Option Ty
kept_if true t = t
kept_if false t = None

abbrev pub all_kept_if : Bool → Option (List Ty) → List Ty
all_kept_if true ts = known_or_none ts
all_kept_if false ts = []

-- primitives and shared operations

abbrev pub row_after : Primitive → Option (List Ty) → Option (List Ty)
row_after p None = None
row_after p (Some ts) = row_of p ts

-- an item and a code
abbrev pub with_code : Option Ty → Option (List Ty)
with_code None = None
with_code (Some t) = Some (t ∷ whole ∷ [])

-- the outputs by the type of the first operand
abbrev pub shared_types : SharedOp → Ty → Option (List Ty)
shared_types shared.Enqueue q = Some (whole ∷ [])
shared_types shared.Dequeue q = with_code (queued q)
shared_types shared.Release q = Some (whole ∷ [])
shared_types shared.Size q = Some (whole ∷ whole ∷ [])
shared_types shared.NewRef t = Some (ty.ValueRef t ∷ [])
shared_types shared.DelRef r = with_code (referred r)

abbrev pub shared_after : SharedOp → Option Ty → Option (List Ty)
shared_after op None = None
shared_after op (Some t) = shared_types op t

-- the type of what stands at an operand in the diagram of the frame before, if there is one
abbrev pub carried : Types → (before : Option ℕ) → Wire → Option Ty
carried types None w = None
carried types (Some b) w = wire_type types b w

-- what a border line gives inside, in diagram b, from the diagram d outside; before is that of the frame before

abbrev pub line_inside : Types → (d b : ℕ) → (before : Option ℕ) → Tunnel → List Given
line_inside types d b before (line.Tunnel outer inner) = given b inner (wire_type types d outer)
line_inside types d b before (line.Register initial inner next last) = given b inner (wire_type types d initial)
line_inside types d b before (line.Kept t inner next last) = given b inner (Some t)
line_inside types d b before (line.Index array inner) = given b inner (then_type (wire_type types d array) element)
line_inside types d b before (line.Carry earlier inner) = given b inner (carried types before earlier)
line_inside types d b before (line.Ref reference inner next same code) = given b inner (then_type (wire_type types d reference) referred)
line_inside types d b before (line.Element array index inner next outer) = given b inner (then_type (wire_type types d array) element)
line_inside types d b before (line.Field k cluster inner next outer) = given b inner (then_type (wire_type types d cluster) (part k))
line_inside types d b before (line.Last inner outer) = []
line_inside types d b before (line.Gather inner outer) = []
line_inside types d b before (line.Result outer default) = []

-- what it gives outside, where the structure breaks no rule 16 if ok

abbrev pub line_outside : Types → (ok : Bool) → (d b : ℕ) → Tunnel → List Given
line_outside types ok d b (line.Last inner outer) = given d outer (kept_if ok (wire_type types b inner))
line_outside types ok d b (line.Gather inner outer) = given d outer (kept_if ok (array_of (wire_type types b inner)))
line_outside types ok d b (line.Register initial inner next last) = given d last (kept_if ok (wire_type types d initial))
line_outside types ok d b (line.Kept t inner next last) = given d last (kept_if ok (Some t))
line_outside types ok d b (line.Ref reference inner next same code) =
    given d same (kept_if ok (wire_type types d reference)) ++ given d code (kept_if ok (then_type (wire_type types d reference) (λ t. Some whole)))
line_outside types ok d b (line.Element array index inner next outer) = given d outer (kept_if ok (wire_type types d array))
line_outside types ok d b (line.Field k cluster inner next outer) = given d outer (kept_if ok (wire_type types d cluster))
line_outside types ok d b (line.Tunnel outer inner) = []
line_outside types ok d b (line.Index array inner) = []
line_outside types ok d b (line.Result outer default) = []
line_outside types ok d b (line.Carry before inner) = []

abbrev pub lines_inside : Types → (d b : ℕ) → (before : Option ℕ) → List Tunnel → List Given
lines_inside types d b before [] = []
lines_inside types d b before (t ∷ ts) = line_inside types d b before t ++ lines_inside types d b before ts

abbrev pub lines_outside : Types → (ok : Bool) → (d b : ℕ) → List Tunnel → List Given
lines_outside types ok d b [] = []
lines_outside types ok d b (t ∷ ts) = line_outside types ok d b t ++ lines_outside types ok d b ts

abbrev pub border_given : Types → (ok : Bool) → (d b : ℕ) → List Tunnel → List Given
border_given types ok d b lines = lines_inside types d b None lines ++ lines_outside types ok d b lines

-- a case's tunnel gives its name in each branch
abbrev pub arms_inside : Types → (d : ℕ) → List Tunnel → List Arm → List Given
arms_inside types d lines [] = []
arms_inside types d lines (arm ∷ arms) = lines_inside types d arm.body None lines ++ arms_inside types d lines arms

-- the type of result k, from 0: that of the first branch in which it is wired
abbrev pub type_or_next : Types → (b : ℕ) → Wire → Option Ty → Option Ty
type_or_next types b None rest = rest
type_or_next types b (Some name) rest = types b name

abbrev pub result_type : Types → (k : ℕ) → List Arm → Option Ty
result_type types k [] = None
result_type types k (arm ∷ arms) = type_or_next types arm.body (wire_at arm.gives k) (result_type types k arms)

-- the result that a line of a case declares
abbrev pub result_of : Tunnel → Option Wire
result_of (line.Result outer default) = Some outer
result_of (line.Tunnel outer inner) = None
result_of (line.Register initial inner next last) = None
result_of (line.Kept t inner next last) = None
result_of (line.Last inner outer) = None
result_of (line.Gather inner outer) = None
result_of (line.Index array inner) = None
result_of (line.Carry before inner) = None
result_of (line.Ref reference inner next same code) = None
result_of (line.Element array index inner next outer) = None
result_of (line.Field k cluster inner next outer) = None

abbrev pub is_result : Tunnel → Bool
is_result t = is_some (result_of t)

-- the number of the result after a line of a case
abbrev pub next_result : Tunnel → (k : ℕ) → ℕ
next_result t k = if is_result t then k + 1 else k

abbrev pub result_given : Types → (d k : ℕ) → List Arm → Tunnel → List Given
result_given types d k arms t = given d (or_unwired (result_of t)) (result_type types k arms)

abbrev pub results_given : Types → (d k : ℕ) → List Arm → List Tunnel → List Given
results_given types d k arms [] = []
results_given types d k arms (t ∷ ts) = result_given types d k arms t ++ results_given types d (next_result t k) arms ts

-- the frames of a sequence, after the frame of diagram before
abbrev pub parts_given : Types → (d : ℕ) → (before : Option ℕ) → List Part → List Given
parts_given types d before [] = []
parts_given types d before (p ∷ ps) = lines_inside types d p.body before p.lines ++ lines_outside types true d p.body p.lines ++ parts_given types d (Some p.body) ps

-- panels

abbrev pub item_type : PanelItem → (name : List ℕ) → Option Ty → Option Ty
item_type (Control other t required default out) name rest = if bytes_eq other name then Some t else rest
item_type (Indicator other t input) name rest = if bytes_eq other name then Some t else rest

-- the type of the first panel object of a name
abbrev pub panel_type : List PanelItem → (name : List ℕ) → Option Ty
panel_type [] name = None
panel_type (item ∷ items) name = item_type item name (panel_type items name)

abbrev pub control_types : List PanelItem → List Ty
control_types [] = []
control_types (Control name t required default out ∷ items) = t ∷ control_types items
control_types (Indicator name t input ∷ items) = control_types items

abbrev pub indicator_types : List PanelItem → List Ty
indicator_types [] = []
indicator_types (Control name t required default out ∷ items) = indicator_types items
indicator_types (Indicator name t input ∷ items) = t ∷ indicator_types items

abbrev pub panel_of : Option Vi → List PanelItem
panel_of None = []
panel_of (Some vi) = vi.panel

-- the panel that a call means: that of the first VI of the name
abbrev pub called_panel : List Vi → (name : List ℕ) → List PanelItem
called_panel vis name = panel_of (first_vi vis name)

-- the panel that a call means, by the VI's name
abbrev pub Callees : Type 0
Callees = List ℕ → List PanelItem

-- the type of a panel object, by its name
abbrev pub Objects : Type 0
Objects = List ℕ → Option Ty

-- the sources of a node whose types have rows if ok, each with what the node's lines give it
abbrev pub kind_given : Callees → Objects → Types → (ok : Bool) → (diagram : ℕ) → Kind → List Given
kind_given called objects types ok d (Const t literal out) = given d out (Some t)
kind_given called objects types ok d (Apply p inputs outputs) = given_each d outputs (all_kept_if ok (row_after p (wire_types types d inputs)))
kind_given called objects types ok d (Shows name t input) = []
kind_given called objects types ok d (Shared op inputs outputs) = given_each d outputs (all_kept_if ok (shared_after op (wire_type types d (wire_at inputs 0))))
kind_given called objects types ok d (Obtain queue size item out) = given d out (kept_if ok (Some (ty.QueueRef item)))
kind_given called objects types ok d (Read object out) = given d out (objects object)
kind_given called objects types ok d (Write object input) = []
kind_given called objects types ok d (Call name inputs outputs) = given_each d outputs (indicator_types (called name))
kind_given called objects types ok d (Loop count stop iteration lines body) = given body iteration (Some whole) ++ border_given types ok d body lines
kind_given called objects types ok d (Case selector lines arms) = arms_inside types d lines arms ++ results_given types d 0 arms lines
kind_given called objects types ok d (Sequence parts) = parts_given types d None parts
kind_given called objects types ok d (InPlace lines body finish) = border_given types ok d body lines

abbrev pub entry_given : Callees → Objects → Types → Entry → List Given
entry_given called objects types e = kind_given called objects types (has_rows types e) e.diagram e.kind

abbrev pub entries_given : Callees → Objects → Types → List Entry → List Given
entries_given called objects types [] = []
entries_given called objects types (e ∷ es) = entry_given called objects types e ++ entries_given called objects types es

abbrev pub controls_given : List PanelItem → List Given
controls_given [] = []
controls_given (Control name t required default out ∷ items) = given 0 out (Some t) ++ controls_given items
controls_given (Indicator name t input ∷ items) = controls_given items

-- what all lines of a VI with these nodes give
abbrev pub all_given : Callees → List PanelItem → List Entry → Types → List Given
all_given called panel es types = controls_given panel ++ entries_given called (panel_type panel) types es

-- a source has what its line gives it
abbrev pub HasGiven : Types → Given → Type 0
HasGiven types g = types g.diagram g.name ≡ g.type

-- the types of the wires of a VI with this panel and these nodes
abbrev pub AreTypes : Callees → List PanelItem → List Entry → Types → Type 0
AreTypes called panel es types = All (HasGiven types) (all_given called panel es types)

-- whether something is given to a name of a diagram
abbrev pub IsGivenTo : List Given → (diagram : ℕ) → (name : List ℕ) → Type 0
IsGivenTo [] d name = ⊥
IsGivenTo (g ∷ gs) d name = ((g.diagram ≡ d) × (g.name ≡ name)) ⊎ IsGivenTo gs d name

-- the types of the wires of a VI
pub record IsTyping (vis : List Vi) (vi : Vi) (types : Types) : Type 0 where
  pub given : AreTypes (called_panel vis) vi.panel (entries_of vi) types
  -- what no line gives has no type
  pub no_more : (d : ℕ) (name : List ℕ) → (IsGivenTo (all_given (called_panel vis) vi.panel (entries_of vi) types) d name → ⊥) → types d name ≡ None
