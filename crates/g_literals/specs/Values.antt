-- The value of a literal in a type. What isn't of the type is FALSE.
use Rattle.std.specs.Prelude.{ℤ, List, [], ◌∷◌, map}
use Rattle.g_types.specs.Rep.{wrap}
use Rattle.g_types.specs.declared.rep.Rep.{Rep}
use Rattle.g_types.specs.declared.ty.Ty.{Ty, out-Ty}
use Rattle.g_types.specs.declared.ty.Ty.TheOpen.{Ty-F}
use Rattle.g_values.specs.Default.{default}
use Rattle.g_values.specs.Number.{num_of}
use Rattle.g_values.specs.declared.value.Value.{Value}
use Rattle.g_values.specs.declared.value.Value.TheVariants as value
use Rattle.g_prims_definitions.specs.Arithmetic.{nothing, numbers}
use Rattle.g_prims_definitions.specs.Arrays.{number_of}
use Rattle.g_diagram.specs.declared.panel.Lit.{Lit, fold-Lit}
use Rattle.g_diagram.specs.declared.panel.Lit.TheOpen.{Lit-F}

abbrev pub number_in : ℤ → Ty-F Ty → Value
number_in n (Ty-F.Num r) = value.Num (num_of r n)
number_in n _ = nothing

-- the values of some literals, each by what it is in a type

abbrev pub values_in : List (Ty → Value) → Ty → List Value
values_in fs t = map (λ f. f t) fs

abbrev pub values_each : List (Ty → Value) → List Ty → List Value
values_each [] ts = []
values_each (f ∷ fs) [] = []
values_each (f ∷ fs) (t ∷ ts) = f t ∷ values_each fs ts

abbrev pub numbers_of : Rep → List Value → Value
numbers_of r vs = numbers r (map (λ v. wrap r (number_of v)) vs)

abbrev pub elements_of : Ty → List Value → Value
elements_of t vs = value.Arr (record { elem = t; items = vs })

-- an array of elements of a type
abbrev pub array_of : Ty → Ty-F Ty → List Value → Value
array_of t (Ty-F.Num r) vs = numbers_of r vs
array_of t _ vs = elements_of t vs

abbrev pub array_in : List (Ty → Value) → Ty-F Ty → Value
array_in fs (Ty-F.Arr t) = array_of t (out-Ty t) (values_in fs t)
array_in fs _ = nothing

abbrev pub cluster_of : List Value → Value
cluster_of vs = value.Cluster vs

abbrev pub cluster_in : List (Ty → Value) → Ty-F Ty → Value
cluster_in fs (Ty-F.Cluster ts) = cluster_of (values_each fs ts)
cluster_in fs _ = nothing

-- the null reference is the default of its type
abbrev pub value_step : Lit-F (Ty → Value) → Ty → Value
value_step (Lit-F.Number n) t = number_in n (out-Ty t)
value_step (Lit-F.Truth b) t = value.Bool b
value_step (Lit-F.Text s) t = value.Str s
value_step Lit-F.Null t = default t
value_step (Lit-F.Array fs) t = array_in fs (out-Ty t)
value_step (Lit-F.Cluster fs) t = cluster_in fs (out-Ty t)

abbrev pub literal_value : Lit → Ty → Value
literal_value = fold-Lit (Ty → Value) value_step
