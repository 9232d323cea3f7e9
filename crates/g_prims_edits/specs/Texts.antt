-- Strings among values.
use Rattle.std.specs.Prelude.{List, ◌≡◌}
use Rattle.std.specs.List.{All}
use Rattle.g_values.specs.declared.value.Value.{Value, out-Value}
use Rattle.g_values.specs.declared.value.Value.TheVariants as value
use Rattle.g_values.specs.declared.value.Value.TheOpen.{Value-F}
use Rattle.g_prims_definitions.specs.Strings.{text}

-- a value that is the string of its bytes
abbrev pub IsText : Value → Type 0
IsText v = v ≡ value.Str (text v)

abbrev pub AreTexts : List Value → Type 0
AreTexts = All IsText

-- an array of strings, if it isn't one of numbers
abbrev pub IsSortable_at : Value-F Value → Type 0
IsSortable_at (Value-F.Arr xs) = AreTexts xs.items
IsSortable_at _ = Unit {0}

abbrev pub IsSortable : Value → Type 0
IsSortable a = IsSortable_at (out-Value a)
