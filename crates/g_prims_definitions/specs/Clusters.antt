-- Operations on clusters.
use Rattle.std.specs.Prelude.{ℕ, List, [], set, Option, Some, None, slice_get}
use Rattle.g_values.specs.Coerce.{coerced}
use Rattle.g_values.specs.Value.{type_of}
use Rattle.g_values.specs.declared.value.Value.{Value, out-Value}
use Rattle.g_values.specs.declared.value.Value.TheVariants as value
use Rattle.g_values.specs.declared.value.Value.TheOpen.{Value-F}
use Rattle.g_prims_definitions.specs.Arithmetic.{nothing}

abbrev pub parts_at : Value-F Value → List Value
parts_at (Value-F.Cluster vs) = vs
parts_at _ = []

-- the elements of a cluster
abbrev pub parts : Value → List Value
parts c = parts_at (out-Value c)

abbrev pub or_nothing : Option Value → Value
or_nothing None = nothing
or_nothing (Some v) = v

abbrev pub part_at : List Value → ℕ → Value
part_at vs k = or_nothing (slice_get vs k)

-- element k, from 0
abbrev pub get : ℕ → Value → Value
get k c = part_at (parts c) k

-- another element k, coerced to the type of the one that was there
abbrev pub with_part : List Value → ℕ → Value → List Value
with_part vs k e = set vs k (coerced e (type_of (part_at vs k)))

abbrev pub put : ℕ → Value → Value → Value
put k c e = value.Cluster (with_part (parts c) k e)
