-- The types that some row of an operation begins with, and where types that have no row break off.
use Rattle.std.specs.Prelude.{ℕ, List, ◌++◌, ◌≡◌, ◌+◌, ◌≤◌, ◌<◌, Some, None, length, take}
use Rattle.g_types.specs.declared.ty.Ty.{Ty}
use Rattle.g_values.specs.declared.primitive.Primitive.{Primitive}
use Rattle.g_prims_definitions.specs.Rows.{row_of}

-- some row of the operation begins with these types: together with further ones, or with none, they give outputs
pub record Begins (p : Primitive) (ts : List Ty) : Type 0 where
  pub further : List Ty
  pub outs : List Ty
  pub row : row_of p (ts ++ further) ≡ Some outs

-- The types have no row, and the input at place k, from 1, is the first that shows it: some row begins with the types before it, and none
-- with these and its own, or it is missing.
pub record BreaksOff (p : Primitive) (ts : List Ty) (k : ℕ) : Type 0 where
  pub no_row : row_of p ts ≡ None
  pub before : ℕ
  pub next : k ≡ before + 1
  pub within : before ≤ length ts
  pub begins : Begins p (take before ts)
  pub breaks : before < length ts → Begins p (take k ts) → ⊥
