-- Rule 5: each line with another number of inputs or outputs than its operation has, or, for a call, than the VI that it calls has controls
-- and indicators.
use Rattle.std.specs.Prelude.{ℕ, ◌==◌, Bool, true, not, ◌&&◌, List, map, filter, length, Option, Some, None}
use Rattle.g_operations.specs.Rows.{fits, primitive_row, shared_row}
use Rattle.g_diagram.specs.Lines.{Entry, Kind, Const, Apply, Shows, Shared, Obtain, Read, Write, Call, Loop, Case, Sequence, InPlace}
use Rattle.g_rules_lines.specs.Spots.{Spot, whole}
use Rattle.g_rules_lines.specs.Callees.{Arities}

-- a call of an unknown VI isn't looked at
abbrev pub fits_call : Option (ℕ × ℕ) → (inputs outputs : ℕ) → Bool
fits_call None i o = true
fits_call (Some a) i o = (i == a.0) && (o == a.1)

abbrev pub fits_arity : Arities → Kind → Bool
fits_arity known (Const t literal out) = true
fits_arity known (Apply op inputs outputs) = fits (primitive_row op) (length inputs) (length outputs)
fits_arity known (Shows name t w) = true
fits_arity known (Shared op inputs outputs) = fits (shared_row op) (length inputs) (length outputs)
fits_arity known (Obtain queue size item out) = true
fits_arity known (Read object out) = true
fits_arity known (Write object input) = true
fits_arity known (Call vi inputs outputs) = fits_call (known vi) (length inputs) (length outputs)
fits_arity known (Loop count stop iteration lines body) = true
fits_arity known (Case selector lines arms) = true
fits_arity known (Sequence parts) = true
fits_arity known (InPlace lines body finish) = true

abbrev pub miscounted : Arities → List Entry → List Spot
miscounted known es = map whole (filter (λ e. not (fits_arity known e.kind)) es)
