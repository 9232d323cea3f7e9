-- What is known of the types of a VI's wires, and the kinds of types that the rules tell apart.
use Rattle.std.specs.Prelude.{ℕ, List, [], ◌∷◌, Option, Some, None, slice_get}
use Rattle.g_types.specs.declared.rep.Rep.TheVariants.{I32}
use Rattle.g_types.specs.declared.ty.Ty.{Ty, out-Ty}
use Rattle.g_types.specs.declared.ty.Ty.TheVariants as ty
use Rattle.g_types.specs.declared.ty.Ty.TheOpen.{Ty-F}
use Rattle.g_prims_definitions.specs.Kinds.{item}
use Rattle.g_diagram.specs.declared.place.Place.{Place}
use Rattle.g_diagram.specs.Lines.{Wire}

-- the types of a VI's wires, by diagram and name; none where the type is unknown
abbrev pub Types : Type 0
Types = ℕ → List ℕ → Option Ty

-- an operand of a line of a VI; a line is its operand 0
abbrev pub place : (vi line operand : ℕ) → Place
place v l k = record { vi = v; line = l; operand = k }

-- the type of what stands at an operand in a diagram
abbrev pub wire_type : Types → (diagram : ℕ) → Wire → Option Ty
wire_type types d None = None
wire_type types d (Some name) = types d name

abbrev pub both : Option Ty → Option (List Ty) → Option (List Ty)
both None ts = None
both (Some t) None = None
both (Some t) (Some ts) = Some (t ∷ ts)

-- the types at operands, where all are known
abbrev pub wire_types : Types → (diagram : ℕ) → List Wire → Option (List Ty)
wire_types types d [] = Some []
wire_types types d (w ∷ ws) = both (wire_type types d w) (wire_types types d ws)

abbrev pub or_unwired : Option Wire → Wire
or_unwired None = None
or_unwired (Some w) = w

-- the wire at operand k from 0
abbrev pub wire_at : List Wire → (k : ℕ) → Wire
wire_at ws k = or_unwired (slice_get ws k)

abbrev pub then_type : Option Ty → (Ty → Option Ty) → Option Ty
then_type None f = None
then_type (Some t) f = f t

-- the type of an array's elements
abbrev pub element : Ty → Option Ty
element t = item t

abbrev pub queued_at : Ty-F Ty → Option Ty
queued_at (Ty-F.QueueRef t) = Some t
queued_at _ = None

-- the type of the items of a queue, by the type of its reference
abbrev pub queued : Ty → Option Ty
queued t = queued_at (out-Ty t)

abbrev pub referred_at : Ty-F Ty → Option Ty
referred_at (Ty-F.ValueRef t) = Some t
referred_at _ = None

-- the type of the value that a reference names
abbrev pub referred : Ty → Option Ty
referred t = referred_at (out-Ty t)

-- the type of codes, counts, sizes and positions
abbrev pub whole : Ty
whole = ty.Num I32
