-- Literals that are values of a type have values of it.
use Rattle.std.specs.Prelude.{◌≡◌, true}
use Rattle.g_types.specs.declared.ty.Ty.{Ty}
use Rattle.g_values.specs.Spelled.{IsSpelled}
use Rattle.g_values.specs.Typed.{IsOfType}
use Rattle.g_diagram.specs.declared.panel.Lit.{Lit}
use Rattle.g_typing.specs.Literals.{is_value_of}
use Rattle.g_literals.specs.Values.{literal_value}

-- a literal that is a value of a type, which a listing can write, has a proper value of that type
abbrev pub AreOfTheirTypes : Type 0
AreOfTheirTypes = (literal : Lit) (t : Ty) → is_value_of literal t ≡ true → IsSpelled t → IsOfType t (literal_value literal t)
