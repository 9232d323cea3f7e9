-- The references that a value holds, at any depth. A null reference refers to nothing and counts as none.
use Rattle.std.specs.Prelude.{List, [], ◌∷◌, Option, Some, None}
use Rattle.std.specs.List.{All, flat_map}
use Rattle.g_types.specs.declared.ty.Ty.{Ty}
use Rattle.g_types.specs.declared.ty.Ty.TheVariants as ty
use Rattle.g_values.specs.declared.value.Live.{Live}
use Rattle.g_values.specs.declared.value.Value.{Value, fold-Value}
use Rattle.g_values.specs.declared.value.Value.TheOpen.{Value-F}

-- its type, which says whether the object is a queue or a value and of what type, and the object in one of its lives
pub record Reference : Type 0 where
  pub kind : Ty
  pub at : Live

abbrev pub reference : Ty → Option Live → List Reference
reference t None = []
reference t (Some live) = record { kind = t; at = live } ∷ []

abbrev pub references_step : Value-F (List Reference) → List Reference
references_step (Value-F.Num x) = []
references_step (Value-F.Bool b) = []
references_step (Value-F.Str s) = []
references_step (Value-F.Nums xs) = []
references_step (Value-F.Arr xs) = flat_map (λ l. l) xs.items
references_step (Value-F.Cluster ls) = flat_map (λ l. l) ls
references_step (Value-F.Queue r) = reference (ty.QueueRef r.elem) r.at
references_step (Value-F.Cell r) = reference (ty.ValueRef r.elem) r.at

-- in the order in which they stand
abbrev pub references_of : Value → List Reference
references_of = fold-Value (List Reference) references_step

-- each reference that the value holds satisfies P
abbrev pub HoldsOnly : (Reference → Type 0) → Value → Type 0
HoldsOnly P v = All P (references_of v)
