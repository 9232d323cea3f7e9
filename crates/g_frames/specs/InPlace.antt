-- Structures in place.
use Rattle.std.specs.Prelude.{ℕ, ◌+◌, List, [], ◌∷◌, ◌++◌, Option, Some, None}
use Rattle.std.specs.Option.{option_and_then}
use Rattle.g_types.specs.declared.ty.Ty.{Ty}
use Rattle.g_values.specs.declared.value.Live.{Live}
use Rattle.g_values.specs.declared.value.Value.{Value, out-Value}
use Rattle.g_values.specs.declared.value.Value.TheOpen.{Value-F}
use Rattle.g_values.specs.Coerce.{coerced}
use Rattle.g_prims_definitions.specs.Arithmetic.{nothing}
use Rattle.g_diagram.specs.declared.node.Tunnel.{Tunnel}
use Rattle.g_diagram.specs.Lines.{Wire, Entry}
use Rattle.g_shared.specs.declared.reply.Reply.{Reply}
use Rattle.g_shared.specs.Cells.{Body}
use Rattle.g_border.specs.Readers.{Reader, value_on, paired}
use Rattle.g_border.specs.Lines.{entering, lines_inside, leaving, lines_outside, Reference, other_values, other_places}
use Rattle.g_border.specs.Bodies.{body_reader}
use Rattle.g_frames.specs.declared.state.Progress.TheVariants as progress
use Rattle.g_frames.specs.Contents.{InPlace}
use Rattle.g_frames.specs.Effects.{Effect, gives, Here}
use Rattle.g_frames.specs.Operations.{serial_of, on_live, no_cell}

-- the wires of the body where the structure's reference refers to a value
abbrev pub place_reader : Here → Entry → List Tunnel → (body finish : ℕ) → (referred : Value) → Reader
place_reader h e lines body finish v =
    body_reader h.vi.ports h.vi.types h.vi.entries body finish (lines_inside (record (entering h.outer) { referred = v }) (e.line + 1) lines)

-- what the body makes of the value of a reference of a type: the new value, coerced to the type, and what the other lines give
abbrev pub place_body : Here → Entry → List Tunnel → (body finish : ℕ) → (next : Wire) → Ty → Body
place_body h e lines body finish next t v inputs =
    let r = place_reader h e lines body finish v in
    (coerced (value_on r next) t, other_values (leaving h.outer (r ∷ []) (h.vi.types body)) (e.line + 1) lines)

-- the operation gives what the other lines give, and the code; the reference stays the same
abbrev pub place_done : Here → Entry → List Tunnel → Reference → Reply → Effect
place_done h e lines r reply =
    gives progress.Done ((r.same, value_on h.outer r.from) ∷ paired (other_places (e.line + 1) lines ++ r.code ∷ []) reply.values)

abbrev pub item_at : Value-F Value → Option (Ty × Option Live)
item_at (Value-F.Cell r) = Some (r.elem, r.at)
item_at _ = None

-- where the reference is live its value goes into the body, and the body's new value becomes the reference's; else the default of its type
-- goes in, and the new value is dropped
abbrev pub by_place : Here → Entry → List Tunnel → (body finish : ℕ) → Reference → Ty → Option Live → Option Effect
by_place h e lines body finish r t live =
    on_live h live (no_cell t) (InPlace (serial_of live) []) (place_body h e lines body finish r.next t) (place_done h e lines r)

-- A structure in place is one firing. Its body's values are those of its dataflow
abbrev pub place_effect : Here → Entry → List Tunnel → (body finish : ℕ) → Option Reference → Option Effect
place_effect h e lines body finish None =
    Some (gives progress.Done (lines_outside (leaving h.outer (place_reader h e lines body finish nothing ∷ []) (h.vi.types body)) (e.line + 1) lines))
place_effect h e lines body finish (Some r) = option_and_then (λ i. by_place h e lines body finish r i.0 i.1) (item_at (out-Value (value_on h.outer r.from)))
