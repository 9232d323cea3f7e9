-- Rule 17: consumers whose type isn't assignable to that of their place, where both are known.
use Rattle.std.specs.Prelude.{ℕ, ◌+◌, List, [], ◌∷◌, ◌++◌, if◌then◌else◌, Option, Some, None}
use Rattle.g_types.specs.declared.ty.Ty.{Ty}
use Rattle.g_prims_definitions.specs.Kinds.{is_assignable, part}
use Rattle.g_diagram.specs.declared.place.Place.{Place}
use Rattle.g_operations.specs.declared.shared.SharedOp.{SharedOp}
use Rattle.g_operations.specs.declared.shared.SharedOp.TheVariants as shared
use Rattle.g_diagram.specs.declared.node.Tunnel.{Tunnel}
use Rattle.g_diagram.specs.declared.node.Tunnel.TheVariants as line
use Rattle.g_diagram.specs.Lines.{Wire, Arm, Entry, Kind, Const, Apply, Shows, Shared, Obtain, Read, Write, Call, Loop, Case, Sequence, InPlace}
use Rattle.g_typing.specs.Types.{Types, place, wire_type, wire_at, then_type, element, queued, referred}
use Rattle.g_typing.specs.Typing.{Callees, Objects, is_result, result_type, next_result, control_types}

abbrev pub unlike : (from to : Option Ty) → Place → List Place
unlike None u p = []
unlike (Some t) None p = []
unlike (Some t) (Some u) p = if is_assignable t u then [] else p ∷ []

-- the inputs of a call from operand k on, which go to controls of these types
abbrev pub inputs_unlike : Types → (vi line diagram k : ℕ) → List Wire → List Ty → List Place
inputs_unlike types v l d k [] ts = []
inputs_unlike types v l d k (w ∷ ws) [] = []
inputs_unlike types v l d k (w ∷ ws) (t ∷ ts) = unlike (wire_type types d w) (Some t) (place v l k) ++ inputs_unlike types v l d (k + 1) ws ts

-- a border line: a new value takes the type of the one that it stands for
abbrev pub line_unlike : Types → (vi d b line : ℕ) → Tunnel → List Place
line_unlike types v d b l (line.Register initial inner next last) = unlike (wire_type types b next) (wire_type types d initial) (place v l 3)
line_unlike types v d b l (line.Kept t inner next last) = unlike (wire_type types b next) (Some t) (place v l 3)
line_unlike types v d b l (line.Ref reference inner next same code) =
    unlike (wire_type types b next) (then_type (wire_type types d reference) referred) (place v l 3)
line_unlike types v d b l (line.Element array index inner next outer) =
    unlike (wire_type types b next) (then_type (wire_type types d array) element) (place v l 4)
line_unlike types v d b l (line.Field k cluster inner next outer) =
    unlike (wire_type types b next) (then_type (wire_type types d cluster) (part k)) (place v l 3)
line_unlike types v d b l (line.Tunnel outer inner) = []
line_unlike types v d b l (line.Last inner outer) = []
line_unlike types v d b l (line.Gather inner outer) = []
line_unlike types v d b l (line.Index array inner) = []
line_unlike types v d b l (line.Result outer default) = []
line_unlike types v d b l (line.Carry before inner) = []

abbrev pub lines_unlike : Types → (vi d b line : ℕ) → List Tunnel → List Place
lines_unlike types v d b l [] = []
lines_unlike types v d b l (t ∷ ts) = line_unlike types v d b l t ++ lines_unlike types v d b (l + 1) ts

-- what each branch gives for result k, from 0, on the line after its `when`
abbrev pub gives_unlike : Types → (vi k : ℕ) → (to : Option Ty) → List Arm → List Place
gives_unlike types v k t [] = []
gives_unlike types v k t (arm ∷ arms) =
    unlike (wire_type types arm.body (wire_at arm.gives k)) t (place v (arm.body + 1) (k + 1)) ++ gives_unlike types v k t arms

abbrev pub result_unlike : Types → (vi k : ℕ) → List Arm → Tunnel → List Place
result_unlike types v k arms t = if is_result t then gives_unlike types v k (result_type types k arms) arms else []

abbrev pub results_unlike : Types → (vi k : ℕ) → List Arm → List Tunnel → List Place
results_unlike types v k arms [] = []
results_unlike types v k arms (t ∷ ts) = result_unlike types v k arms t ++ results_unlike types v (next_result t k) arms ts

-- an enqueued value
abbrev pub shared_unlike : Types → (vi line diagram : ℕ) → SharedOp → List Wire → List Place
shared_unlike types v l d shared.Enqueue inputs =
    unlike (wire_type types d (wire_at inputs 1)) (then_type (wire_type types d (wire_at inputs 0)) queued) (place v l 2)
shared_unlike types v l d shared.Dequeue inputs = []
shared_unlike types v l d shared.Release inputs = []
shared_unlike types v l d shared.Size inputs = []
shared_unlike types v l d shared.NewRef inputs = []
shared_unlike types v l d shared.DelRef inputs = []

abbrev pub kind_unlike : Callees → Objects → Types → (vi line diagram : ℕ) → Kind → List Place
kind_unlike called objects types v l d (Shows name t input) = unlike (wire_type types d input) (Some t) (place v l 1)
kind_unlike called objects types v l d (Write object input) = unlike (wire_type types d input) (objects object) (place v l 1)
kind_unlike called objects types v l d (Call name inputs outputs) = inputs_unlike types v l d 1 inputs (control_types (called name))
kind_unlike called objects types v l d (Shared op inputs outputs) = shared_unlike types v l d op inputs
kind_unlike called objects types v l d (Loop count stop iteration lines body) = lines_unlike types v d body (l + 1) lines
kind_unlike called objects types v l d (Case selector lines arms) = results_unlike types v 0 arms lines
kind_unlike called objects types v l d (InPlace lines body finish) = lines_unlike types v d body (l + 1) lines
kind_unlike called objects types v l d (Const t literal out) = []
kind_unlike called objects types v l d (Apply p inputs outputs) = []
kind_unlike called objects types v l d (Obtain queue size item out) = []
kind_unlike called objects types v l d (Read object out) = []
kind_unlike called objects types v l d (Sequence parts) = []

-- 17: all such places of a VI with these nodes
abbrev pub unassignable : Callees → Objects → Types → (vi : ℕ) → List Entry → List Place
unassignable called objects types v [] = []
unassignable called objects types v (e ∷ es) = kind_unlike called objects types v e.line e.diagram e.kind ++ unassignable called objects types v es
