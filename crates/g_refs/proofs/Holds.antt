-- What holds of every cell stays, by what became of its value.
use Rattle.std.proofs.Common.{◌≡◌, sym, subst}
use Rattle.std.specs.Prelude.{Option, Some, None}
use Rattle.g_types.specs.declared.ty.Ty.{Ty}
use Rattle.g_types.specs.declared.ty.Ty.TheVariants as ty
use Rattle.g_values.specs.declared.value.Value.{Value}
use Rattle.g_values.specs.Proper.{IsProper}
use Rattle.g_values.specs.Spelled.{IsSpelled}
use Rattle.g_values.specs.Typed.{IsOfType}
use Rattle.g_shared.proofs.References.{spelled_in_cell}
use Rattle.g_refs.specs.Cell.{IsCell}

pub of_new : (t : Ty) → IsSpelled (ty.ValueRef t) → IsCell t None
of_new t spelled = record { spelled = spelled; typed = tt }

pub of_none : (t : Ty) (old new : Option Value) → new ≡ None → IsCell t old → IsCell t new
of_none t old new e c = subst (IsCell t) (sym e) (of_new t c.spelled)

pub of_made : (t : Ty) (old : Option Value) (v : Value) → IsOfType t v → IsCell t old → IsCell t (Some v)
of_made t old v typed c = record { spelled = c.spelled; typed = typed }

kept_typed : (t : Ty) (v : Value) → IsCell t (Some v) → IsOfType t v
kept_typed t v c = c.typed

pub kept_proper : (t : Ty) (m : Option Value) (v : Value) → m ≡ Some v → IsCell t m → IsProper v
kept_proper t m v e c = (kept_typed t v (subst (IsCell t) e c)).proper

pub content_spelled : (t : Ty) (m : Option Value) → IsCell t m → IsSpelled t
content_spelled t m c = spelled_in_cell t c.spelled

pub ruleset holds = (of_new, of_none, of_made, kept_proper, content_spelled)
