-- Rule 16: the places at which the types of the inputs have no row. Nothing is said where they aren't known.
use Rattle.std.specs.Prelude.{ℕ, ◌+◌, ◌==◌, Bool, true, false, List, [], ◌∷◌, ◌++◌, length, if◌then◌else◌, Option, Some, None, is_some}
use Rattle.g_types.specs.declared.ty.Ty.{Ty}
use Rattle.g_types.specs.Ty.{is_num}
use Rattle.g_values.specs.declared.primitive.Primitive.{Primitive}
use Rattle.g_prims_definitions.specs.Kinds.{is_bool, part}
use Rattle.g_prims_definitions.specs.Rows.{row_of, first_refused, is_shallow, is_element}
use Rattle.g_diagram.specs.declared.place.Place.{Place}
use Rattle.g_operations.specs.declared.row.Count.{Count}
use Rattle.g_operations.specs.declared.row.Count.TheVariants.{Exactly, Between, Any}
use Rattle.g_operations.specs.declared.shared.SharedOp.{SharedOp}
use Rattle.g_operations.specs.declared.shared.SharedOp.TheVariants as shared
use Rattle.g_diagram.specs.declared.node.Tunnel.{Tunnel}
use Rattle.g_diagram.specs.declared.node.Tunnel.TheVariants as line
use Rattle.g_diagram.specs.Lines.{Wire, Entry, Kind, Const, Apply, Shows, Shared, Obtain, Read, Write, Call, Loop, Case, Sequence, InPlace}
use Rattle.g_operations.specs.Rows.{primitive_row}
use Rattle.g_typing.specs.Types.{Types, place, wire_type, wire_types, or_unwired, wire_at, element, queued, referred}

-- whether a type is of a kind; one that isn't known may be
abbrev pub may_be : Option Ty → (Ty → Bool) → Bool
may_be None kind = true
may_be (Some t) kind = kind t

-- a place where the type is known and isn't of the kind
abbrev pub unless : Option Ty → (Ty → Bool) → Place → List Place
unless t kind p = if may_be t kind then [] else p ∷ []

abbrev pub has_elements : Ty → Bool
has_elements t = is_some (element t)

abbrev pub names_queue : Ty → Bool
names_queue t = is_some (queued t)

abbrev pub names_value : Ty → Bool
names_value t = is_some (referred t)

abbrev pub has_part : (k : ℕ) → Ty → Bool
has_part k t = is_some (part k t)

-- primitives

-- where an operation's form leaves the number of its outputs open, as that of `unbundle`, there are as many as its row gives
abbrev pub given_fit : Count → (outputs given : ℕ) → Bool
given_fit (Exactly k) n m = true
given_fit (Between least most) n m = true
given_fit Any n m = n == m

abbrev pub outputs_fit : Primitive → (outputs given : ℕ) → Bool
outputs_fit p n m = given_fit (primitive_row p).outputs n m

-- the first input with which no row begins, by what the row gives
abbrev pub row_misses : (vi line : ℕ) → Primitive → (outputs : ℕ) → (inputs : List Ty) → Option (List Ty) → List Place
row_misses v l p n ts None = place v l (first_refused p ts) ∷ []
row_misses v l p n ts (Some given) = if outputs_fit p n (length given) then [] else place v l 1 ∷ []

abbrev pub primitive_misses : (vi line : ℕ) → Primitive → (outputs : ℕ) → (inputs : Option (List Ty)) → List Place
primitive_misses v l p n None = []
primitive_misses v l p n (Some ts) = row_misses v l p n ts (row_of p ts)

-- shared operations, by their first operand: a reference to a queue, for `delref` to a value, and for `newref` what it names

abbrev pub fits_shared : SharedOp → Ty → Bool
fits_shared shared.Enqueue t = names_queue t
fits_shared shared.Dequeue t = names_queue t
fits_shared shared.Release t = names_queue t
fits_shared shared.Size t = names_queue t
fits_shared shared.NewRef t = is_shallow t
fits_shared shared.DelRef t = names_value t

-- border lines of a structure whose diagrams are d outside and b inside

abbrev pub line_misses : Types → (vi d b line : ℕ) → Tunnel → List Place
line_misses types v d b l (line.Index array inner) = unless (wire_type types d array) has_elements (place v l 1)
line_misses types v d b l (line.Gather inner outer) = unless (wire_type types b inner) is_element (place v l 1)
line_misses types v d b l (line.Ref reference inner next same code) = unless (wire_type types d reference) names_value (place v l 1)
line_misses types v d b l (line.Element array index inner next outer) =
    unless (wire_type types d array) has_elements (place v l 1) ++ unless (wire_type types d index) is_num (place v l 2)
line_misses types v d b l (line.Field k cluster inner next outer) = unless (wire_type types d cluster) (has_part k) (place v l 1)
line_misses types v d b l (line.Tunnel outer inner) = []
line_misses types v d b l (line.Register initial inner next last) = []
line_misses types v d b l (line.Kept t inner next last) = []
line_misses types v d b l (line.Last inner outer) = []
line_misses types v d b l (line.Result outer default) = []
line_misses types v d b l (line.Carry before inner) = []

abbrev pub lines_miss : Types → (vi d b line : ℕ) → List Tunnel → List Place
lines_miss types v d b l [] = []
lines_miss types v d b l (t ∷ ts) = line_misses types v d b l t ++ lines_miss types v d b (l + 1) ts

-- nodes

-- the operand of a loop's stop wire, which stands after its count
abbrev pub stop_operand : (count : Option Wire) → ℕ
stop_operand None = 1
stop_operand (Some w) = 2

abbrev pub kind_misses : Types → (vi line diagram : ℕ) → Kind → List Place
kind_misses types v l d (Apply p inputs outputs) = primitive_misses v l p (length outputs) (wire_types types d inputs)
kind_misses types v l d (Shared op inputs outputs) = unless (wire_type types d (wire_at inputs 0)) (fits_shared op) (place v l 1)
kind_misses types v l d (Obtain queue size item out) = if is_shallow item then [] else place v l 0 ∷ []
kind_misses types v l d (Loop count stop iteration lines body) =
    unless (wire_type types d (or_unwired count)) is_num (place v l 1)
    ++ (unless (wire_type types body (or_unwired stop)) is_bool (place v l (stop_operand count)) ++ lines_miss types v d body (l + 1) lines)
kind_misses types v l d (InPlace lines body finish) = lines_miss types v d body (l + 1) lines
kind_misses types v l d (Const t literal out) = []
kind_misses types v l d (Shows name t input) = []
kind_misses types v l d (Read object out) = []
kind_misses types v l d (Write object input) = []
kind_misses types v l d (Call name inputs outputs) = []
kind_misses types v l d (Case selector lines arms) = []
kind_misses types v l d (Sequence parts) = []

abbrev pub entry_misses : Types → (vi : ℕ) → Entry → List Place
entry_misses types v e = kind_misses types v e.line e.diagram e.kind

-- 16: all such places of a VI with these nodes
abbrev pub rowless : Types → (vi : ℕ) → List Entry → List Place
rowless types v [] = []
rowless types v (e ∷ es) = entry_misses types v e ++ rowless types v es

abbrev pub is_none_of : List Place → Bool
is_none_of [] = true
is_none_of (p ∷ ps) = false

-- whether a node breaks no rule 16
abbrev pub has_rows : Types → Entry → Bool
has_rows types e = is_none_of (entry_misses types 0 e)
