-- Defaults, coerced values and buffers, by computing.
use Rattle.std.proofs.Common.{◌≡◌, refl, [], ◌∷◌, pos, true, false}
use Rattle.std.specs.Prelude.{negsuc}
use Rattle.g_types.specs.declared.rep.Rep.TheVariants.{I16, I32, U8, U16}
use Rattle.g_types.specs.declared.ty.Ty.TheVariants as ty
use Rattle.g_values.specs.declared.value.Value.TheVariants as value
use Rattle.g_values.specs.Number.{num_of}
use Rattle.g_values.specs.Numbers.{Numbers, empty}
use Rattle.g_values.specs.Default.{default}
use Rattle.g_values.specs.Coerce.{coerced}
use Rattle.g_values.specs.Proper.{is_buffered, count_after}
use Rattle.g_values.proofs.Defaults.{default-Num, default-Bool, default-Str, default-Arr, default-Cluster}
use Rattle.g_values.proofs.CoercedValues.{coerced-Num, coerced-Nums}
use Rattle.g_values.proofs.Buffered.{buffered-Bool, buffered-Str, buffered-QueueRef, buffered-types}

defaults_of_a_cluster : default (ty.Cluster (ty.Num U8 ∷ ty.Bool ∷ ty.Str ∷ ty.Arr (ty.Num I16) ∷ [])) ≡ value.Cluster (value.Num (num_of U8 (pos 0)) ∷ value.Bool false ∷ value.Str [] ∷ value.Nums (empty I16) ∷ [])
defaults_of_a_cluster = simp (default-Cluster, default-Num, default-Bool, default-Str, default-Arr, ty.outs-Num)

-- -1 of 16 bits is 65535 without a sign
unsigned_number : coerced (value.Num (num_of I16 (negsuc 0))) (ty.Num U16) ≡ value.Num (num_of U16 (negsuc 0))
unsigned_number = coerced-Num (num_of I16 (negsuc 0)) U16

unsigned_number_is : (num_of U16 (negsuc 0)).n ≡ pos 65535
unsigned_number_is = refl

-- each number of an array is wrapped
narrow : Numbers
narrow = record { rep = U8; all = pos 44 ∷ pos 255 ∷ [] }

wide : Numbers
wide = record { rep = I32; all = pos 300 ∷ negsuc 0 ∷ [] }

narrowed_array : coerced (value.Nums wide) (ty.Arr (ty.Num U8)) ≡ value.Nums narrow
unfolding wide narrow
narrowed_array = coerced-Nums wide U8

-- a string in a cluster is a buffer, and none behind a reference
holds_a_string : is_buffered (ty.Cluster (ty.Bool ∷ ty.Str ∷ [])) ≡ true
holds_a_string = simp (buffered-types, buffered-Bool, buffered-Str)

refers_to_a_string : is_buffered (ty.Cluster (ty.Bool ∷ ty.QueueRef ty.Str ∷ [])) ≡ false
refers_to_a_string = simp (buffered-types, buffered-Bool, buffered-QueueRef)

counts_one : count_after true 0 ≡ 1
counts_one = refl

stays_at_its_greatest : count_after true 18446744073709551615 ≡ 18446744073709551615
stays_at_its_greatest = refl
