-- What is asked of the inputs.
use Rattle.std.specs.Prelude.{List, ◌≡◌, IsSome, map}
use Rattle.g_values.specs.Value.{type_of}
use Rattle.g_values.specs.declared.value.Value.{Value}
use Rattle.g_values.specs.declared.primitive.Primitive.{Primitive}
use Rattle.g_values.specs.declared.primitive.Primitive.TheVariants as op
use Rattle.g_prims_definitions.specs.Rows.{row_of}

-- the types of the values have a row
abbrev pub HasRow : Primitive → List Value → Type 0
HasRow p vs = IsSome (row_of p (map type_of vs))

-- what an operation on two inputs asks of their types
abbrev pub AreEqualTypes : Primitive → Value → Value → Type 0
AreEqualTypes op.Concat x y = type_of x ≡ type_of y
AreEqualTypes _ x y = Unit {0}
