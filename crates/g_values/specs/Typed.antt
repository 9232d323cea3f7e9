-- Proper values of a type.
use Rattle.std.specs.Prelude.{◌≡◌}
use Rattle.g_types.specs.declared.ty.Ty.{Ty}
use Rattle.g_values.specs.declared.value.Value.{Value}
use Rattle.g_values.specs.Value.{type_of}
use Rattle.g_values.specs.Proper.{IsProper}

pub record IsOfType (t : Ty) (v : Value) : Type 0 where
  pub proper : IsProper v
  pub of_type : type_of v ≡ t
