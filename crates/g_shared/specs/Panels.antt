-- The panel of a data space, and what an operation on it gives and leaves. None waits.
use Rattle.std.specs.Prelude.{ℕ, ◌≡◌, ◌+◌, ◌-◌, ◌<◌, nat_lt, if◌then◌else◌, List, [], ◌∷◌, length, map, slice_get, slice_set, Option, Some, None}
use Rattle.std.specs.Option.{option_map}
use Rattle.g_values.specs.declared.value.Value.{Value}
use Rattle.g_values.specs.Value.{type_of}
use Rattle.g_values.specs.Proper.{IsProper}
use Rattle.g_shared.specs.declared.operations.PanelOp.{PanelOp}
use Rattle.g_shared.specs.declared.operations.PanelOp.TheVariants.{Enter, Leave, Read, Write}
use Rattle.g_shared.specs.Outcome.{Outcome, gives}

-- the values of the cells, in the order of the listing
pub record PanelState : Type 0 where
  pub controls : List Value
  pub indicators : List Value

abbrev pub panel_of : (controls indicators : List Value) → PanelState
panel_of controls indicators = record { controls = controls; indicators = indicators }

abbrev pub cell_count : PanelState → ℕ
cell_count p = length p.controls + length p.indicators

-- cells are numbered from 0, first the controls and then the indicators
abbrev pub cell_at : PanelState → ℕ → Option Value
cell_at p k = if nat_lt k (length p.controls) then slice_get p.controls k else slice_get p.indicators (k - length p.controls)

abbrev pub with_cell : PanelState → ℕ → Value → PanelState
with_cell p k v =
    if nat_lt k (length p.controls)
    then record p { controls = slice_set p.controls k v }
    else record p { indicators = slice_set p.indicators (k - length p.controls) v }

abbrev pub as_list : Option Value → List Value
as_list None = []
as_list (Some v) = v ∷ []

-- the opening sets the controls and gives their values; the indicators stay
abbrev pub panel_step : PanelState → PanelOp → Outcome PanelState
panel_step p (Enter vs) = gives vs (record p { controls = vs })
panel_step p Leave = gives p.indicators p
panel_step p (Read k) = gives (as_list (cell_at p k)) p
panel_step p (Write k v) = gives [] (with_cell p k v)

-- a value for a cell of the panel, of the cell's type
pub record IsWrite (p : PanelState) (k : ℕ) (v : Value) : Type 0 where
  pub number : k < cell_count p
  pub proper : IsProper v
  pub of_type : option_map type_of (cell_at p k) ≡ Some (type_of v)

-- an operation of the panel: the numbers are those of its cells, and the values have the cells' types
abbrev pub IsPanelOp : PanelState → PanelOp → Type 0
IsPanelOp p (Enter vs) = map type_of vs ≡ map type_of p.controls
IsPanelOp p Leave = Unit {0}
IsPanelOp p (Read k) = k < cell_count p
IsPanelOp p (Write k v) = IsWrite p k v
