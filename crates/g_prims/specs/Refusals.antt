-- Why types have no row.
use Rattle.std.specs.Prelude.{ℕ, List, [], ◌∷◌, ◌≡◌, ◌+◌, ◌&&◌, Option, None, Some, cond, nat_lt}
use Rattle.g_types.specs.declared.ty.Ty.{Ty}
use Rattle.g_values.specs.declared.primitive.Primitive.{Primitive}
use Rattle.g_prims_definitions.specs.Begins.{BreaksOff}
use Rattle.g_prims_definitions.specs.Row.{Row, read, place}
use Rattle.g_prims_definitions.specs.Rows.{is_shallow}
use Rattle.g_prims.specs.declared.refusal.RowRefused.{RowRefused}
use Rattle.g_prims.specs.declared.refusal.RowRefused.TheVariants.{NoRow, Memory}

-- the types have no row and the answer tells where they break off, or memory was wanted
abbrev pub IsBreak : Primitive → List Ty → RowRefused → Type 0
IsBreak p ts (NoRow k) = BreaksOff p ts k
IsBreak p ts (Memory e) = Unit {0}

-- the same by the reading of one row
abbrev pub IsRefusal : Row → List Ty → RowRefused → Type 0
IsRefusal row ts (NoRow k) = (read row ts ≡ None) × (place 0 row ts ≡ k)
IsRefusal row ts (Memory e) = Unit {0}

-- the first input, where k stand before, that can't be the part of a cluster
abbrev pub first_out : ℕ → List Ty → Option ℕ
first_out k [] = None
first_out k (t ∷ ts) = cond (nat_lt k 64 && is_shallow t) (first_out (k + 1) ts) (Some (k + 1))
