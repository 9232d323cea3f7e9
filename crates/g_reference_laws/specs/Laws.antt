-- Where references come from: a primitive passes on those of its inputs, and brings in no other.
use Rattle.std.specs.Prelude.{◌≡◌, List, []}
use Rattle.std.specs.List.{All, Contains, flat_map}
use Rattle.g_types.specs.declared.ty.Ty.{Ty}
use Rattle.g_values.specs.Coerce.{coerced}
use Rattle.g_values.specs.Default.{default}
use Rattle.g_values.specs.declared.primitive.Primitive.{Primitive}
use Rattle.g_values.specs.declared.value.Value.{Value}
use Rattle.g_prims_definitions.specs.Values.{outputs_of}
use Rattle.g_diagram.specs.declared.panel.Lit.{Lit}
use Rattle.g_literals.specs.Values.{literal_value}
use Rattle.g_reference_laws.specs.References.{references_of, HoldsOnly}

-- each reference that an output of a primitive holds is held by an input: what holds of those of the inputs holds of it
abbrev pub OutputsHoldTheInputs : Type 0
OutputsHoldTheInputs = (p : Primitive) (vs : List Value) → All (HoldsOnly (Contains (flat_map references_of vs))) (outputs_of p vs)

-- a coerced value holds the references of the value
abbrev pub CoercedHoldsTheSame : Type 0
CoercedHoldsTheSame = (v : Value) (t : Ty) → references_of (coerced v t) ≡ references_of v

-- the default of a type holds none
abbrev pub DefaultsHoldNone : Type 0
DefaultsHoldNone = (t : Ty) → references_of (default t) ≡ []

-- the value of a literal holds none
abbrev pub LiteralsHoldNone : Type 0
LiteralsHoldNone = (literal : Lit) (t : Ty) → references_of (literal_value literal t) ≡ []
