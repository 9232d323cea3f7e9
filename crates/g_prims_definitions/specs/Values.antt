-- The values that each operation gives.
use Rattle.std.specs.Prelude.{pos, not, List, [], ◌∷◌, bit_and, bit_or, bit_xor}
use Rattle.g_types.specs.declared.rep.Rep.TheVariants.{I8, I16, I32, I64, U8, U16, U32, U64}
use Rattle.g_values.specs.declared.value.Value.{Value}
use Rattle.g_values.specs.declared.value.Value.TheVariants as value
use Rattle.g_values.specs.declared.primitive.Primitive.{Primitive}
use Rattle.g_values.specs.declared.primitive.Primitive.TheVariants as op
use Rattle.g_prims_definitions.specs.Arithmetic.{number, arithmetic, plus, minus, times, each, negated, increased, decreased, absolute, converted, quotient, remainder, greater, lesser, pair, folded}
use Rattle.g_prims_definitions.specs.Bits.{bitwise, by_bits, both, either, differs, inverted, shift, truth}
use Rattle.g_prims_definitions.specs.Comparisons.{equal, less, select, truth_number, all_true, any_true}
use Rattle.g_prims_definitions.specs.Arrays.{array_size, index_array, replace, build, concat, initialize, array_subset, delete, reversed, sort, search}
use Rattle.g_prims_definitions.specs.Strings.{str_len, str_concat, str_subset, str_bytes, bytes_str, num_str, str_num}
use Rattle.g_prims_definitions.specs.Clusters.{parts, get, put}

-- the values of the outputs, where the types of the inputs have a row
abbrev pub outputs_of : Primitive → List Value → List Value
outputs_of op.Add (x ∷ y ∷ []) = arithmetic plus x y ∷ []
outputs_of op.Sub (x ∷ y ∷ []) = arithmetic minus x y ∷ []
outputs_of op.Mul (x ∷ y ∷ []) = arithmetic times x y ∷ []
outputs_of op.Inc (x ∷ []) = each increased x ∷ []
outputs_of op.Dec (x ∷ []) = each decreased x ∷ []
outputs_of op.Neg (x ∷ []) = each negated x ∷ []
outputs_of op.Abs (x ∷ []) = each absolute x ∷ []
outputs_of op.QuotRem (x ∷ y ∷ []) = pair quotient remainder x y
outputs_of op.MaxMin (x ∷ y ∷ []) = pair greater lesser x y
outputs_of op.And (x ∷ y ∷ []) = bitwise (by_bits bit_and) both x y ∷ []
outputs_of op.Or (x ∷ y ∷ []) = bitwise (by_bits bit_or) either x y ∷ []
outputs_of op.Xor (x ∷ y ∷ []) = bitwise (by_bits bit_xor) differs x y ∷ []
outputs_of op.Not (x ∷ []) = inverted x ∷ []
outputs_of op.Shift (x ∷ n ∷ []) = shift x n ∷ []
outputs_of op.ToI8 (x ∷ []) = converted I8 x ∷ []
outputs_of op.ToI16 (x ∷ []) = converted I16 x ∷ []
outputs_of op.ToI32 (x ∷ []) = converted I32 x ∷ []
outputs_of op.ToI64 (x ∷ []) = converted I64 x ∷ []
outputs_of op.ToU8 (x ∷ []) = converted U8 x ∷ []
outputs_of op.ToU16 (x ∷ []) = converted U16 x ∷ []
outputs_of op.ToU32 (x ∷ []) = converted U32 x ∷ []
outputs_of op.ToU64 (x ∷ []) = converted U64 x ∷ []
outputs_of op.BoolInt (b ∷ []) = number I16 (truth_number (truth b)) ∷ []
outputs_of op.Eq (x ∷ y ∷ []) = value.Bool (equal x y) ∷ []
outputs_of op.Ne (x ∷ y ∷ []) = value.Bool (not (equal x y)) ∷ []
outputs_of op.Lt (x ∷ y ∷ []) = value.Bool (less x y) ∷ []
outputs_of op.Le (x ∷ y ∷ []) = value.Bool (not (less y x)) ∷ []
outputs_of op.Gt (x ∷ y ∷ []) = value.Bool (less y x) ∷ []
outputs_of op.Ge (x ∷ y ∷ []) = value.Bool (not (less x y)) ∷ []
outputs_of op.Select (s ∷ t ∷ f ∷ []) = select s t f ∷ []
outputs_of op.All (a ∷ []) = value.Bool (all_true a) ∷ []
outputs_of op.Any (a ∷ []) = value.Bool (any_true a) ∷ []
outputs_of op.ArraySize (a ∷ []) = array_size a ∷ []
outputs_of op.IndexArray (a ∷ i ∷ []) = index_array a i ∷ []
outputs_of op.Replace (a ∷ i ∷ e ∷ []) = replace a i e ∷ []
outputs_of op.Build (a ∷ e ∷ []) = build a e ∷ []
outputs_of op.Concat (a ∷ b ∷ []) = concat a b ∷ []
outputs_of op.Initialize (e ∷ n ∷ []) = initialize e n ∷ []
outputs_of op.Subset (a ∷ i ∷ n ∷ []) = array_subset a i n ∷ []
outputs_of op.Delete (a ∷ i ∷ n ∷ []) = delete a i n
outputs_of op.Reverse (a ∷ []) = reversed a ∷ []
outputs_of op.Sort (a ∷ []) = sort a ∷ []
outputs_of op.Sum (a ∷ []) = folded plus (pos 0) a ∷ []
outputs_of op.Product (a ∷ []) = folded times (pos 1) a ∷ []
outputs_of op.Search (a ∷ e ∷ []) = search a e ∷ []
outputs_of op.StrLen (s ∷ []) = str_len s ∷ []
outputs_of op.StrConcat (s ∷ t ∷ []) = str_concat s t ∷ []
outputs_of op.StrSubset (s ∷ i ∷ n ∷ []) = str_subset s i n ∷ []
outputs_of op.StrBytes (s ∷ []) = str_bytes s ∷ []
outputs_of op.BytesStr (a ∷ []) = bytes_str a ∷ []
outputs_of op.NumStr (x ∷ []) = num_str x ∷ []
outputs_of op.StrNum (s ∷ []) = str_num s
outputs_of op.Bundle vs = value.Cluster vs ∷ []
outputs_of op.Unbundle (c ∷ []) = parts c
outputs_of (op.Get k) (c ∷ []) = get k c ∷ []
outputs_of (op.Set k) (c ∷ e ∷ []) = put k c e ∷ []
outputs_of _ _ = []
