-- What a row tells of its inputs.
use Rattle.std.proofs.Common.{◌≡◌, Bool, true, false, List, [], ◌∷◌, refl}
use Rattle.std.specs.Prelude.{is_some}
use Rattle.g_types.specs.declared.ty.Ty.{Ty}
use Rattle.g_types.specs.Same.{same_type}
use Rattle.g_types.proofs.SameLemmas.{same_type-true}
use Rattle.g_values.specs.Spelled.{is_array}
use Rattle.g_values.specs.Value.{type_of}
use Rattle.g_values.specs.declared.value.Value.{Value}
use Rattle.g_values.specs.declared.primitive.Primitive.{Primitive}
use Rattle.g_values.specs.declared.primitive.Primitive.TheVariants as op
use Rattle.g_prims_definitions.specs.Row.{read, given, ends, another}
use Rattle.g_prims_definitions.specs.Rows.{when}
use Rattle.g_prims_definitions.specs.Conditions.{HasRow, AreEqualTypes}

shown : (b : Bool) (outs : List Ty) → is_some (read (ends (when b outs)) []) ≡ true → b ≡ true
shown true outs e = refl
shown false outs e = absurd cc

two_tests : (a : Bool) (b : Ty → Bool) (outs : List Ty) (u : Ty) → is_some (read (given a (another (λ y. ends (when (b y) outs)))) (u ∷ [])) ≡ true → b u ≡ true
two_tests true b outs u e = shown (b u) outs e
two_tests false b outs u e = absurd cc

pub equal_types : (p : Primitive) (x y : Value) → HasRow p (x ∷ y ∷ []) → AreEqualTypes p x y
equal_types op.Concat x y h = same_type-true (type_of x) (type_of y) (two_tests (is_array (type_of x)) (same_type (type_of x)) (type_of x ∷ []) (type_of y) h)
equal_types _ x y h = tt
