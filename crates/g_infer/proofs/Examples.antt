-- What is told of a VI's wires, computed: a tunnel of a case with two branches.
use Rattle.std.proofs.Common.{◌≡◌, [], ◌∷◌, refl}
use Rattle.std.specs.Prelude.{codes, Some, None}
use Rattle.g_types.specs.declared.rep.Rep.TheVariants.{I32}
use Rattle.g_types.specs.declared.ty.Ty.TheVariants as ty
use Rattle.g_infer.specs.declared.typed.ViTypes.{ViTypes}
use Rattle.g_infer.specs.Answer.{types_in}

-- the branches are the diagrams 3 and 5
abbrev told : ViTypes
told = record {
  sources = record { diagram = 0; name = codes "a"; ty = ty.Num I32 } ∷ [];
  cases = record { names = record { name = codes "t"; ty = ty.Bool } ∷ [] } ∷ [];
  branches = record { diagram = 3; cases = 0 ∷ [] } ∷ record { diagram = 5; cases = 0 ∷ [] } ∷ [];
}

outside : types_in told 0 (codes "a") ≡ Some (ty.Num I32)
outside = refl

in_one_branch : types_in told 3 (codes "t") ≡ Some ty.Bool
in_one_branch = refl

in_the_other : types_in told 5 (codes "t") ≡ Some ty.Bool
in_the_other = refl

not_outside : types_in told 0 (codes "t") ≡ None
not_outside = refl

not_inside : types_in told 3 (codes "a") ≡ None
not_inside = refl
