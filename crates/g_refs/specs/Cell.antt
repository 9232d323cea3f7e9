-- What holds of every cell, and its references.
use Rattle.std.specs.Prelude.{◌≡◌, ℕ, List, Option, Some, None}
use Rattle.std.specs.Option.{unwrap_or}
use Rattle.g_types.specs.declared.ty.Ty.{Ty}
use Rattle.g_types.specs.declared.ty.Ty.TheVariants as ty
use Rattle.g_values.specs.declared.value.Value.{Value}
use Rattle.g_values.specs.declared.value.Value.TheVariants as value
use Rattle.g_values.specs.Default.{default}
use Rattle.g_values.specs.Spelled.{IsSpelled}
use Rattle.g_values.specs.Typed.{IsOfType}
use Rattle.g_shared.specs.declared.reply.Reply.{Reply}
use Rattle.g_shared.specs.Cells.{CellState, Body, live_value, in_place_step}

-- the reference with a serial
abbrev pub reference : CellState → (serial : ℕ) → Value
reference c serial = value.Cell (record { elem = c.content; at = Some (record { object = c.object; serial = serial }) })

abbrev pub KeepsType : Ty → Option Value → Type 0
KeepsType content None = Unit {0}
KeepsType content (Some v) = IsOfType content v

-- its value is a proper one of its type
pub record IsCell (content : Ty) (kept : Option Value) : Type 0 where
  pub spelled : IsSpelled (ty.ValueRef content)
  pub typed : KeepsType content kept

-- ---- operations in place

-- what the body gets by a reference: the value where it is live, and else the default of its type
abbrev pub value_for : CellState → (serial : ℕ) → Value
value_for c n = unwrap_or (live_value c n) (default c.content)

-- the operation, with whatever body and inputs, whose body makes this value and these outputs of what it gets
abbrev pub Places : (old : CellState) → (serial : ℕ) → Value → (outputs : List Value) → Reply → (new : CellState) → Type 0
Places old n v outputs reply new = (inputs : List Value) (body : Body) → body (value_for old n) inputs ≡ (v, outputs) → in_place_step old n inputs body ≡ Some (reply, new)
