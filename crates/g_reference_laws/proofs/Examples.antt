-- The references of values, by computing.
use Rattle.std.proofs.Common.{◌≡◌, [], ◌∷◌, None, Some}
use Rattle.g_types.specs.declared.ty.Ty.TheVariants as ty
use Rattle.g_values.specs.declared.value.Live.{Live}
use Rattle.g_values.specs.declared.value.Value.TheVariants as value
use Rattle.g_reference_laws.specs.References.{references_of}
use Rattle.g_reference_laws.proofs.Held.{references-Arr, references-Cluster, references-Queue, references-Cell}

-- in a cluster a reference to a queue of Booleans, and an array of a null reference and one to a string
at_any_depth : (a b : Live)
    → references_of (value.Cluster (value.Queue (record { elem = ty.Bool; at = Some a }) ∷ value.Arr (record { elem = ty.ValueRef ty.Str; items = value.Cell (record { elem = ty.Str; at = None }) ∷ value.Cell (record { elem = ty.Str; at = Some b }) ∷ [] }) ∷ []))
    ≡ record { kind = ty.QueueRef ty.Bool; at = a } ∷ record { kind = ty.ValueRef ty.Str; at = b } ∷ []
at_any_depth a b = simp (references-Cluster, references-Arr, references-Queue, references-Cell)
