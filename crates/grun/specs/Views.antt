-- Inner: what is read, seen without where it lies in memory.
use Rattle.std.specs.Prelude.{ℕ, List, map}
use Rattle.std.specs.Borrow.{Bor}
use Rattle.g_types.specs.declared.ty.Ty.{Ty}
use Rattle.g_values.specs.declared.value.Value.{Value}
use Rattle.grun.specs.declared.settings.Control.{Control}
use Rattle.grun.specs.Settings.{Named}

-- a control's name and type
abbrev pub seen_control : Control → List ℕ × Ty
seen_control c = (c.name.now, c.ty.now)

abbrev pub seen_controls : List Control → Named Ty
seen_controls = map seen_control

-- the entries of a map from names to types
abbrev pub types_in : List (Bor (List ℕ) × Bor Ty) → Named Ty
types_in = map (λ (e : Bor (List ℕ) × Bor Ty). (e.0.now, e.1.now))

-- the entries of a map from names to values
abbrev pub values_in : List (Bor (List ℕ) × Value) → Named Value
values_in = map (λ (e : Bor (List ℕ) × Value). (e.0.now, e.1))
