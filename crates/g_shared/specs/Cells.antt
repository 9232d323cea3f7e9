-- A value that references name, and what an operation on it gives and leaves. None waits.
use Rattle.std.specs.Prelude.{ℕ, ◌+◌, ◌==◌, if◌then◌else◌, List, [], ◌∷◌, ◌++◌, Option, Some, None}
use Rattle.g_types.specs.declared.ty.Ty.{Ty}
use Rattle.g_values.specs.declared.value.Value.{Value}
use Rattle.g_values.specs.declared.value.Value.TheVariants as value
use Rattle.g_values.specs.Default.{default}
use Rattle.g_values.specs.Typed.{IsOfType}
use Rattle.g_shared.specs.declared.operations.RefOp.{RefOp}
use Rattle.g_shared.specs.declared.operations.RefOp.TheVariants.{Make, Delete}
use Rattle.g_shared.specs.Outcome.{Outcome, gives, done, not_live}

-- a cell: its number among the objects, the type of its value, its present serial, and its value. It is live where it has one.
pub record CellState : Type 0 where
  pub object : ℕ
  pub content : Ty
  pub serial : ℕ
  pub kept : Option Value

-- at first it isn't live
abbrev pub new_cell : (object : ℕ) → Ty → CellState
new_cell object content = record { object = object; content = content; serial = 0; kept = None }

-- its present reference
abbrev pub cell_ref : CellState → Value
cell_ref c = value.Cell (record { elem = c.content; at = Some (record { object = c.object; serial = c.serial }) })

-- live with this value and the next serial
abbrev pub made : CellState → Value → CellState
made c v = record c { serial = c.serial + 1; kept = Some v }

abbrev pub keeping : CellState → Option Value → CellState
keeping c kept = record c { kept = kept }

-- a reference is live while the cell is, with the reference's serial: the value then
abbrev pub live_value : CellState → (serial : ℕ) → Option Value
live_value c n = if n == c.serial then c.kept else None

-- ---- each operation, by the value where its reference is live

abbrev pub delete : CellState → Option Value → Outcome CellState
delete c None = gives (default c.content ∷ not_live ∷ []) c
delete c (Some v) = gives (v ∷ done ∷ []) (keeping c None)

abbrev pub cell_step : CellState → RefOp → Outcome CellState
cell_step c (Make v) = gives (cell_ref (made c v) ∷ []) (made c v)
cell_step c (Delete n) = delete c (live_value c n)

-- a body in place: the new value and the outputs, by the kept value and the other inputs
abbrev pub Body : Type 0
Body = Value → List Value → Value × List Value

-- where the reference isn't live the body gets the default, and the new value is dropped
abbrev pub in_place : CellState → (inputs : List Value) → Body → Option Value → Outcome CellState
in_place c inputs body None = gives ((body (default c.content) inputs).1 ++ not_live ∷ []) c
in_place c inputs body (Some v) = gives ((body v inputs).1 ++ done ∷ []) (keeping c (Some (body v inputs).0))

abbrev pub in_place_step : CellState → (serial : ℕ) → (inputs : List Value) → Body → Outcome CellState
in_place_step c n inputs body = in_place c inputs body (live_value c n)

-- an operation of a cell with such values
abbrev pub IsRefOp : (content : Ty) → RefOp → Type 0
IsRefOp content (Make v) = IsOfType content v
IsRefOp content (Delete n) = Unit {0}
