-- Inner: what is asked of inputs.
use Rattle.std.specs.Prelude.{List, [], ◌∷◌}
use Rattle.g_prims_edits.specs.Texts.{IsSortable}
use Rattle.g_values.specs.declared.value.Value.{Value}
use Rattle.g_values.specs.declared.primitive.Primitive.{Primitive}
use Rattle.g_values.specs.declared.primitive.Primitive.TheVariants as op

-- what is sorted can be
abbrev pub IsInOrder : Primitive → Value → Type 0
IsInOrder op.Sort x = IsSortable x
IsInOrder _ x = Unit {0}

abbrev pub AreInOrder : Primitive → List Value → Type 0
AreInOrder p (x ∷ []) = IsInOrder p x
AreInOrder p _ = Unit {0}
