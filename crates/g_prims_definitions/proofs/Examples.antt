-- The values that the primitives give, on worked examples, edges first.
use Rattle.std.proofs.Common.{◌≡◌, refl, ap, subst, List, [], ◌∷◌, ◌++◌, map, take, length, Bool, true, false, ℕ, ℤ, pos, negsuc}
use Rattle.std.proofs.Math.Seq.{take-append_seam}
use Rattle.g_values.specs.Proper.{most}
use Rattle.g_prims_definitions.specs.Arrays.{within}
use Rattle.std.specs.Prelude.{codes, replicate}
use Rattle.std.specs.Fmt as fmt
use Rattle.g_types.specs.declared.rep.Rep.TheVariants.{I8, I16, I32, I64, U8, U16, U32, U64}
use Rattle.g_types.specs.declared.ty.Ty as types
use Rattle.g_types.specs.declared.ty.Ty.TheVariants as ty
use Rattle.g_values.specs.declared.value.ArrOf.{ArrOf}
use Rattle.g_values.specs.declared.value.Value as values
use Rattle.g_values.specs.declared.value.Value.{Value}
use Rattle.g_values.specs.declared.value.Value.TheVariants as value
use Rattle.g_values.specs.declared.primitive.Primitive.TheVariants as op
use Rattle.g_prims_definitions.specs.Arithmetic.{number, numbers}
use Rattle.g_prims_definitions.specs.Values.{outputs_of}
use Rattle.g_prims_definitions.proofs.Folds.{folds}
use Rattle.g_values.proofs.TypesOf.{type-Num}
use Rattle.g_values.proofs.Defaults.{default-Str}

unfoldable everything : Unit {0}
unfolding
    types.out-Ty values.out-Value fmt.digits
    Rattle.g_types.specs.declared.ty.Ty.TheBlock.shape-the_row-Ty-0 Rattle.g_types.specs.declared.ty.Ty.TheBlock.hidden-the_row-Ty-0
    Rattle.g_types.specs.declared.ty.Ty.TheBlock.shown-the_row-Ty-0 Rattle.g_types.specs.declared.ty.Ty.TheBlock.shape-the_row-Ty-1
    Rattle.g_types.specs.declared.ty.Ty.TheBlock.hidden-the_row-Ty-1 Rattle.g_types.specs.declared.ty.Ty.TheBlock.shown-the_row-Ty-1
    Rattle.g_values.specs.declared.value.Value.TheBlock.shape-the_row-Value-0 Rattle.g_values.specs.declared.value.Value.TheBlock.hidden-the_row-Value-0
    Rattle.g_values.specs.declared.value.Value.TheBlock.shown-the_row-Value-0
    denote.Hole.Carrier.out denote.Hole.Carrier.shown denote.Hole.Carrier.hidden
everything = tt

abbrev truths : List Bool → Value
truths all = let xs : ArrOf Value = record { elem = ty.Bool; items = map (λ b. value.Bool b) all } in value.Arr xs

abbrev texts : List (List ℕ) → Value
texts all = let xs : ArrOf Value = record { elem = ty.Str; items = map (λ s. value.Str s) all } in value.Arr xs

add_wraps : outputs_of op.Add (number I8 (pos 127) ∷ number I8 (pos 1) ∷ []) ≡ (number I8 (negsuc 127) ∷ [])
unfolding everything
add_wraps = refl

add_widens : outputs_of op.Add (number I32 (negsuc 0) ∷ number U32 (pos 0) ∷ []) ≡ (number U32 (pos 4294967295) ∷ [])
unfolding everything
add_widens = refl

add_shorter : outputs_of op.Add (numbers I32 (pos 1 ∷ pos 2 ∷ pos 3 ∷ []) ∷ numbers I32 (pos 10 ∷ pos 20 ∷ []) ∷ []) ≡ (numbers I32 (pos 11 ∷ pos 22 ∷ []) ∷ [])
unfolding everything
add_shorter = refl

add_empty : outputs_of op.Add (number I32 (pos 1) ∷ numbers I32 ([]) ∷ []) ≡ (numbers I32 ([]) ∷ [])
unfolding everything
add_empty = refl

sub_sides : outputs_of op.Sub (number U8 (pos 1) ∷ numbers U8 (pos 2 ∷ pos 1 ∷ []) ∷ []) ≡ (numbers U8 (pos 255 ∷ pos 0 ∷ []) ∷ [])
unfolding everything
sub_sides = refl

sub_array_first : outputs_of op.Sub (numbers U8 (pos 2 ∷ pos 1 ∷ []) ∷ number U8 (pos 1) ∷ []) ≡ (numbers U8 (pos 1 ∷ pos 0 ∷ []) ∷ [])
unfolding everything
sub_array_first = refl

mul_wraps : outputs_of op.Mul (number U64 (pos 18446744073709551615) ∷ number U64 (pos 18446744073709551615) ∷ []) ≡ (number U64 (pos 1) ∷ [])
unfolding everything
mul_wraps = refl

mul_signs : outputs_of op.Mul (numbers I16 (negsuc 2 ∷ pos 4 ∷ []) ∷ number I8 (negsuc 1) ∷ []) ≡ (numbers I16 (pos 6 ∷ negsuc 7 ∷ []) ∷ [])
unfolding everything
mul_signs = refl

inc_wraps : outputs_of op.Inc (number U8 (pos 255) ∷ []) ≡ (number U8 (pos 0) ∷ [])
unfolding everything
inc_wraps = refl

inc_each : outputs_of op.Inc (numbers I8 (pos 127 ∷ negsuc 0 ∷ []) ∷ []) ≡ (numbers I8 (negsuc 127 ∷ pos 0 ∷ []) ∷ [])
unfolding everything
inc_each = refl

dec_wraps : outputs_of op.Dec (number U16 (pos 0) ∷ []) ≡ (number U16 (pos 65535) ∷ [])
unfolding everything
dec_wraps = refl

dec_each : outputs_of op.Dec (numbers I32 (pos 0 ∷ []) ∷ []) ≡ (numbers I32 (negsuc 0 ∷ []) ∷ [])
unfolding everything
dec_each = refl

neg_least : outputs_of op.Neg (number I64 (negsuc 9223372036854775807) ∷ []) ≡ (number I64 (negsuc 9223372036854775807) ∷ [])
unfolding everything
neg_least = refl

neg_unsigned : outputs_of op.Neg (numbers U8 (pos 1 ∷ pos 0 ∷ []) ∷ []) ≡ (numbers U8 (pos 255 ∷ pos 0 ∷ []) ∷ [])
unfolding everything
neg_unsigned = refl

abs_least : outputs_of op.Abs (number I8 (negsuc 127) ∷ []) ≡ (number I8 (negsuc 127) ∷ [])
unfolding everything
abs_least = refl

abs_each : outputs_of op.Abs (numbers I32 (negsuc 4 ∷ pos 5 ∷ pos 0 ∷ []) ∷ []) ≡ (numbers I32 (pos 5 ∷ pos 5 ∷ pos 0 ∷ []) ∷ [])
unfolding everything
abs_each = refl

quotrem_floor : outputs_of op.QuotRem (number I32 (negsuc 6) ∷ number I32 (pos 2) ∷ []) ≡ (number I32 (negsuc 3) ∷ number I32 (pos 1) ∷ [])
unfolding everything
quotrem_floor = refl

quotrem_by_zero : outputs_of op.QuotRem (number I32 (pos 5) ∷ number I32 (pos 0) ∷ []) ≡ (number I32 (pos 0) ∷ number I32 (pos 5) ∷ [])
unfolding everything
quotrem_by_zero = refl

quotrem_least : outputs_of op.QuotRem (number I8 (negsuc 127) ∷ number I8 (negsuc 0) ∷ []) ≡ (number I8 (negsuc 127) ∷ number I8 (pos 0) ∷ [])
unfolding everything
quotrem_least = refl

quotrem_negative : outputs_of op.QuotRem (number I8 (pos 7) ∷ number I8 (negsuc 1) ∷ []) ≡ (number I8 (negsuc 3) ∷ number I8 (negsuc 0) ∷ [])
unfolding everything
quotrem_negative = refl

max_min_wide : outputs_of op.MaxMin (number I32 (negsuc 0) ∷ number U32 (pos 1) ∷ []) ≡ (number U32 (pos 4294967295) ∷ number U32 (pos 1) ∷ [])
unfolding everything
max_min_wide = refl

max_min_equal : outputs_of op.MaxMin (number I8 (pos 3) ∷ number I16 (pos 3) ∷ []) ≡ (number I16 (pos 3) ∷ number I16 (pos 3) ∷ [])
unfolding everything
max_min_equal = refl

and_wide : outputs_of op.And (number I8 (negsuc 0) ∷ number U16 (pos 4660) ∷ []) ≡ (number U16 (pos 4660) ∷ [])
unfolding everything
and_wide = refl

and_truths : outputs_of op.And (value.Bool true ∷ (truths (true ∷ false ∷ [])) ∷ []) ≡ ((truths (true ∷ false ∷ [])) ∷ [])
unfolding everything
and_truths = refl

or_bits : outputs_of op.Or (number U8 (pos 5) ∷ number U8 (pos 10) ∷ []) ≡ (number U8 (pos 15) ∷ [])
unfolding everything
or_bits = refl

or_truths : outputs_of op.Or ((truths (true ∷ false ∷ false ∷ [])) ∷ (truths (false ∷ false ∷ [])) ∷ []) ≡ ((truths (true ∷ false ∷ [])) ∷ [])
unfolding everything
or_truths = refl

xor_bits : outputs_of op.Xor (numbers I8 (negsuc 0 ∷ pos 5 ∷ []) ∷ number I8 (pos 1) ∷ []) ≡ (numbers I8 (negsuc 1 ∷ pos 4 ∷ []) ∷ [])
unfolding everything
xor_bits = refl

xor_truths : outputs_of op.Xor (value.Bool true ∷ value.Bool true ∷ []) ≡ (value.Bool false ∷ [])
unfolding everything
xor_truths = refl

not_signed : outputs_of op.Not (number I8 (pos 0) ∷ []) ≡ (number I8 (negsuc 0) ∷ [])
unfolding everything
not_signed = refl

not_unsigned : outputs_of op.Not (numbers U8 (pos 0 ∷ pos 255 ∷ []) ∷ []) ≡ (numbers U8 (pos 255 ∷ pos 0 ∷ []) ∷ [])
unfolding everything
not_unsigned = refl

not_truths : outputs_of op.Not ((truths (true ∷ false ∷ [])) ∷ []) ≡ ((truths (false ∷ true ∷ [])) ∷ [])
unfolding everything
not_truths = refl

shift_right_logical : outputs_of op.Shift (number I8 (negsuc 0) ∷ number I32 (negsuc 0) ∷ []) ≡ (number I8 (pos 127) ∷ [])
unfolding everything
shift_right_logical = refl

shift_by_width : outputs_of op.Shift (number U8 (pos 1) ∷ number I32 (pos 8) ∷ []) ≡ (number U8 (pos 0) ∷ [])
unfolding everything
shift_by_width = refl

shift_left : outputs_of op.Shift (number I8 (pos 65) ∷ number I32 (pos 1) ∷ []) ≡ (number I8 (negsuc 125) ∷ [])
unfolding everything
shift_left = refl

shift_far : outputs_of op.Shift (number I64 (negsuc 0) ∷ number I64 (negsuc 9223372036854775807) ∷ []) ≡ (number I64 (pos 0) ∷ [])
unfolding everything
shift_far = refl

to_narrower : outputs_of op.ToI8 (number I32 (pos 200) ∷ []) ≡ (number I8 (negsuc 55) ∷ [])
unfolding everything
to_narrower = refl

to_unsigned : outputs_of op.ToU64 (numbers I8 (negsuc 0 ∷ pos 0 ∷ []) ∷ []) ≡ (numbers U64 (pos 18446744073709551615 ∷ pos 0 ∷ []) ∷ [])
unfolding everything
to_unsigned = refl

bool_true : outputs_of op.BoolInt (value.Bool true ∷ []) ≡ (number I16 (pos 1) ∷ [])
unfolding everything
bool_true = refl

bool_false : outputs_of op.BoolInt (value.Bool false ∷ []) ≡ (number I16 (pos 0) ∷ [])
unfolding everything
bool_false = refl

eq_wide : outputs_of op.Eq (number I32 (negsuc 0) ∷ number U32 (pos 4294967295) ∷ []) ≡ (value.Bool true ∷ [])
unfolding everything
eq_wide = refl

ne_wide : outputs_of op.Ne (number I8 (negsuc 0) ∷ number I16 (negsuc 0) ∷ []) ≡ (value.Bool false ∷ [])
unfolding everything
ne_wide = refl

lt_wide : outputs_of op.Lt (number I32 (negsuc 0) ∷ number U32 (pos 0) ∷ []) ≡ (value.Bool false ∷ [])
unfolding everything
lt_wide = refl

lt_text : outputs_of op.Lt (value.Str (codes "a") ∷ value.Str (codes "ab") ∷ []) ≡ (value.Bool true ∷ [])
unfolding everything
lt_text = refl

le_equal : outputs_of op.Le (number I8 (pos 1) ∷ number I8 (pos 1) ∷ []) ≡ (value.Bool true ∷ [])
unfolding everything
le_equal = refl

le_text : outputs_of op.Le (value.Str (codes "b") ∷ value.Str (codes "ab") ∷ []) ≡ (value.Bool false ∷ [])
unfolding everything
le_text = refl

gt_text : outputs_of op.Gt (value.Str (codes "b") ∷ value.Str (codes "ab") ∷ []) ≡ (value.Bool true ∷ [])
unfolding everything
gt_text = refl

gt_number : outputs_of op.Gt (number I8 (pos 1) ∷ number I8 (pos 1) ∷ []) ≡ (value.Bool false ∷ [])
unfolding everything
gt_number = refl

ge_empty : outputs_of op.Ge (value.Str [] ∷ value.Str [] ∷ []) ≡ (value.Bool true ∷ [])
unfolding everything
ge_empty = refl

ge_number : outputs_of op.Ge (number I8 (negsuc 0) ∷ number I8 (pos 0) ∷ []) ≡ (value.Bool false ∷ [])
unfolding everything
ge_number = refl

select_wide : outputs_of op.Select (value.Bool true ∷ number I8 (negsuc 0) ∷ number U16 (pos 7) ∷ []) ≡ (number U16 (pos 65535) ∷ [])
unfolding everything
select_wide = refl

select_other : outputs_of op.Select (value.Bool false ∷ value.Str (codes "t") ∷ value.Str (codes "f") ∷ []) ≡ (value.Str (codes "f") ∷ [])
unfolding everything
select_other = refl

all_empty : outputs_of op.All ((truths ([])) ∷ []) ≡ (value.Bool true ∷ [])
unfolding everything
all_empty = refl

all_one_false : outputs_of op.All ((truths (true ∷ false ∷ [])) ∷ []) ≡ (value.Bool false ∷ [])
unfolding everything
all_one_false = refl

any_empty : outputs_of op.Any ((truths ([])) ∷ []) ≡ (value.Bool false ∷ [])
unfolding everything
any_empty = refl

any_one_true : outputs_of op.Any ((truths (false ∷ true ∷ [])) ∷ []) ≡ (value.Bool true ∷ [])
unfolding everything
any_one_true = refl

size_empty : outputs_of op.ArraySize (numbers U8 ([]) ∷ []) ≡ (number I32 (pos 0) ∷ [])
unfolding everything
size_empty = refl

size_items : outputs_of op.ArraySize ((texts (codes "a" ∷ codes "b" ∷ [])) ∷ []) ≡ (number I32 (pos 2) ∷ [])
unfolding everything
size_items = refl

index_there : outputs_of op.IndexArray (numbers I32 (pos 5 ∷ pos 6 ∷ []) ∷ number I32 (pos 1) ∷ []) ≡ (number I32 (pos 6) ∷ [])
unfolding everything
index_there = refl

index_negative : outputs_of op.IndexArray (numbers I32 (pos 5 ∷ pos 6 ∷ []) ∷ number I32 (negsuc 0) ∷ []) ≡ (number I32 (pos 0) ∷ [])
unfolding everything
index_negative = refl

index_past : outputs_of op.IndexArray (numbers I32 (pos 5 ∷ pos 6 ∷ []) ∷ number U64 (pos 18446744073709551615) ∷ []) ≡ (number I32 (pos 0) ∷ [])
unfolding everything
index_past = refl

replace_past : outputs_of op.Replace (numbers I32 (pos 1 ∷ pos 2 ∷ []) ∷ number I32 (pos 2) ∷ number I32 (pos 9) ∷ []) ≡ (numbers I32 (pos 1 ∷ pos 2 ∷ []) ∷ [])
unfolding everything
replace_past = refl

replace_coerced : outputs_of op.Replace (numbers U8 (pos 1 ∷ pos 2 ∷ []) ∷ number I32 (pos 1) ∷ number I32 (negsuc 0) ∷ []) ≡ (numbers U8 (pos 1 ∷ pos 255 ∷ []) ∷ [])
unfolding everything
replace_coerced = refl

build_empty : outputs_of op.Build (numbers I8 ([]) ∷ number I32 (pos 128) ∷ []) ≡ (numbers I8 (negsuc 127 ∷ []) ∷ [])
unfolding everything
build_empty = refl

build_item : outputs_of op.Build ((texts (codes "a" ∷ [])) ∷ value.Str (codes "b") ∷ []) ≡ ((texts (codes "a" ∷ codes "b" ∷ [])) ∷ [])
unfolding everything
build_item = refl

concat_numbers : outputs_of op.Concat (numbers I8 (pos 1 ∷ []) ∷ numbers I8 (pos 2 ∷ pos 3 ∷ []) ∷ []) ≡ (numbers I8 (pos 1 ∷ pos 2 ∷ pos 3 ∷ []) ∷ [])
unfolding everything
concat_numbers = refl

concat_empty : outputs_of op.Concat ((texts ([])) ∷ (texts (codes "b" ∷ [])) ∷ []) ≡ ((texts (codes "b" ∷ [])) ∷ [])
unfolding everything
concat_empty = refl

initialize_three : outputs_of op.Initialize (number I8 (pos 7) ∷ number I32 (pos 3) ∷ []) ≡ (numbers I8 (pos 7 ∷ pos 7 ∷ pos 7 ∷ []) ∷ [])
unfolding everything
initialize_three = refl

initialize_below : outputs_of op.Initialize (number I8 (pos 7) ∷ number I32 (negsuc 2) ∷ []) ≡ (numbers I8 ([]) ∷ [])
unfolding everything
initialize_below = refl

subset_cut : outputs_of op.Subset (numbers I32 (pos 1 ∷ pos 2 ∷ pos 3 ∷ []) ∷ number I32 (pos 1) ∷ number I32 (pos 5) ∷ []) ≡ (numbers I32 (pos 2 ∷ pos 3 ∷ []) ∷ [])
unfolding everything
subset_cut = refl

subset_below : outputs_of op.Subset (numbers I32 (pos 1 ∷ pos 2 ∷ pos 3 ∷ []) ∷ number I32 (negsuc 0) ∷ number I32 (pos 2) ∷ []) ≡ (numbers I32 (pos 1 ∷ pos 2 ∷ []) ∷ [])
unfolding everything
subset_below = refl

delete_one : outputs_of op.Delete (numbers I32 (pos 1 ∷ pos 2 ∷ pos 3 ∷ []) ∷ number I32 (pos 1) ∷ number I32 (pos 1) ∷ []) ≡ (numbers I32 (pos 1 ∷ pos 3 ∷ []) ∷ numbers I32 (pos 2 ∷ []) ∷ [])
unfolding everything
delete_one = refl

delete_past : outputs_of op.Delete ((texts (codes "a" ∷ [])) ∷ number I32 (pos 4) ∷ number I32 (pos 1) ∷ []) ≡ ((texts (codes "a" ∷ [])) ∷ (texts ([])) ∷ [])
unfolding everything
delete_past = refl

reverse_items : outputs_of op.Reverse ((texts (codes "a" ∷ codes "b" ∷ [])) ∷ []) ≡ ((texts (codes "b" ∷ codes "a" ∷ [])) ∷ [])
unfolding everything
reverse_items = refl

reverse_empty : outputs_of op.Reverse (numbers I8 ([]) ∷ []) ≡ (numbers I8 ([]) ∷ [])
unfolding everything
reverse_empty = refl

sort_signed : outputs_of op.Sort (numbers I8 (pos 3 ∷ negsuc 0 ∷ pos 2 ∷ negsuc 0 ∷ []) ∷ []) ≡ (numbers I8 (negsuc 0 ∷ negsuc 0 ∷ pos 2 ∷ pos 3 ∷ []) ∷ [])
unfolding everything
sort_signed = refl

sort_texts : outputs_of op.Sort ((texts (codes "b" ∷ [] ∷ codes "ab" ∷ [])) ∷ []) ≡ ((texts ([] ∷ codes "ab" ∷ codes "b" ∷ [])) ∷ [])
unfolding everything
sort_texts = refl

sum_wraps : outputs_of op.Sum (numbers U8 (pos 200 ∷ pos 100 ∷ []) ∷ []) ≡ (number U8 (pos 44) ∷ [])
unfolding everything
sum_wraps = refl

sum_empty : outputs_of op.Sum (numbers I32 ([]) ∷ []) ≡ (number I32 (pos 0) ∷ [])
unfolding everything
sum_empty = refl

product_empty : outputs_of op.Product (numbers I32 ([]) ∷ []) ≡ (number I32 (pos 1) ∷ [])
unfolding everything
product_empty = refl

product_wraps : outputs_of op.Product (numbers I8 (pos 64 ∷ pos 4 ∷ []) ∷ []) ≡ (number I8 (pos 0) ∷ [])
unfolding everything
product_wraps = refl

search_second : outputs_of op.Search (numbers I32 (pos 5 ∷ pos 6 ∷ []) ∷ number I32 (pos 6) ∷ []) ≡ (number I32 (pos 1) ∷ [])
unfolding everything
search_second = refl

search_coerced : outputs_of op.Search (numbers U8 (pos 5 ∷ pos 255 ∷ pos 255 ∷ []) ∷ number I32 (negsuc 0) ∷ []) ≡ (number I32 (pos 1) ∷ [])
unfolding everything
search_coerced = refl

search_none : outputs_of op.Search (numbers I32 ([]) ∷ number I32 (pos 6) ∷ []) ≡ (number I32 (negsuc 0) ∷ [])
unfolding everything
search_none = refl

len_text : outputs_of op.StrLen (value.Str (codes "abc") ∷ []) ≡ (number I32 (pos 3) ∷ [])
unfolding everything
len_text = refl

len_empty : outputs_of op.StrLen (value.Str [] ∷ []) ≡ (number I32 (pos 0) ∷ [])
unfolding everything
len_empty = refl

concat_texts : outputs_of op.StrConcat (value.Str (codes "ab") ∷ value.Str (codes "c") ∷ []) ≡ (value.Str (codes "abc") ∷ [])
unfolding everything
concat_texts = refl

concat_no_text : outputs_of op.StrConcat (value.Str [] ∷ value.Str [] ∷ []) ≡ (value.Str [] ∷ [])
unfolding everything
concat_no_text = refl

subset_text : outputs_of op.StrSubset (value.Str (codes "abc") ∷ number I32 (pos 1) ∷ number I32 (pos 9) ∷ []) ≡ (value.Str (codes "bc") ∷ [])
unfolding everything
subset_text = refl

subset_none : outputs_of op.StrSubset (value.Str (codes "abc") ∷ number I32 (pos 1) ∷ number I32 (negsuc 8) ∷ []) ≡ (value.Str [] ∷ [])
unfolding everything
subset_none = refl

bytes_of_text : outputs_of op.StrBytes (value.Str (codes "AB") ∷ []) ≡ (numbers U8 (pos 65 ∷ pos 66 ∷ []) ∷ [])
unfolding everything
bytes_of_text = refl

bytes_of_none : outputs_of op.StrBytes (value.Str [] ∷ []) ≡ (numbers U8 ([]) ∷ [])
unfolding everything
bytes_of_none = refl

text_of_bytes : outputs_of op.BytesStr (numbers U8 (pos 65 ∷ pos 255 ∷ []) ∷ []) ≡ (value.Str (65 ∷ 255 ∷ []) ∷ [])
unfolding everything
text_of_bytes = refl

text_of_none : outputs_of op.BytesStr (numbers U8 ([]) ∷ []) ≡ (value.Str [] ∷ [])
unfolding everything
text_of_none = refl

decimal_least : outputs_of op.NumStr (number I64 (negsuc 9223372036854775807) ∷ []) ≡ (value.Str (codes "-9223372036854775808") ∷ [])
unfolding everything
decimal_least = refl

decimal_zero : outputs_of op.NumStr (number U8 (pos 0) ∷ []) ≡ (value.Str (codes "0") ∷ [])
unfolding everything
decimal_zero = refl

number_minus_zero : outputs_of op.StrNum (value.Str (codes "-0") ∷ []) ≡ (number I64 (pos 0) ∷ value.Bool true ∷ [])
unfolding everything
number_minus_zero = refl

number_too_great : outputs_of op.StrNum (value.Str (codes "9223372036854775808") ∷ []) ≡ (number I64 (pos 0) ∷ value.Bool false ∷ [])
unfolding everything
number_too_great = refl

number_least : outputs_of op.StrNum (value.Str (codes "-9223372036854775808") ∷ []) ≡ (number I64 (negsuc 9223372036854775807) ∷ value.Bool true ∷ [])
unfolding everything
number_least = refl

number_plus : outputs_of op.StrNum (value.Str (codes "+1") ∷ []) ≡ (number I64 (pos 0) ∷ value.Bool false ∷ [])
unfolding everything
number_plus = refl

number_long : outputs_of op.StrNum (value.Str (codes "000000000000000000001") ∷ []) ≡ (number I64 (pos 0) ∷ value.Bool false ∷ [])
unfolding everything
number_long = refl

bundle_two : outputs_of op.Bundle (number I8 (pos 1) ∷ value.Str (codes "a") ∷ []) ≡ (value.Cluster (number I8 (pos 1) ∷ value.Str (codes "a") ∷ []) ∷ [])
unfolding everything
bundle_two = refl

bundle_one : outputs_of op.Bundle (value.Bool true ∷ []) ≡ (value.Cluster (value.Bool true ∷ []) ∷ [])
unfolding everything
bundle_one = refl

unbundle_two : outputs_of op.Unbundle (value.Cluster (number I8 (pos 1) ∷ value.Str (codes "a") ∷ []) ∷ []) ≡ (number I8 (pos 1) ∷ value.Str (codes "a") ∷ [])
unfolding everything
unbundle_two = refl

unbundle_one : outputs_of op.Unbundle (value.Cluster (value.Bool true ∷ []) ∷ []) ≡ (value.Bool true ∷ [])
unfolding everything
unbundle_one = refl

get_second : outputs_of (op.Get 1) (value.Cluster (number I8 (pos 1) ∷ value.Str (codes "a") ∷ []) ∷ []) ≡ (value.Str (codes "a") ∷ [])
unfolding everything
get_second = refl

get_first : outputs_of (op.Get 0) (value.Cluster (number I8 (pos 1) ∷ []) ∷ []) ≡ (number I8 (pos 1) ∷ [])
unfolding everything
get_first = refl

set_other : outputs_of (op.Set 1) (value.Cluster (number I8 (pos 1) ∷ value.Str (codes "a") ∷ []) ∷ value.Str (codes "b") ∷ []) ≡ (value.Cluster (number I8 (pos 1) ∷ value.Str (codes "b") ∷ []) ∷ [])
unfolding everything
set_other = refl

to_i8_each : outputs_of op.ToI8 (numbers U8 (pos 127 ∷ pos 128 ∷ []) ∷ []) ≡ (numbers I8 (pos 127 ∷ negsuc 127 ∷ []) ∷ [])
unfolding everything
to_i8_each = refl

to_i16_wraps : outputs_of op.ToI16 (number I32 (pos 32768) ∷ []) ≡ (number I16 (negsuc 32767) ∷ [])
unfolding everything
to_i16_wraps = refl

to_i16_each : outputs_of op.ToI16 (numbers U16 (pos 65535 ∷ pos 1 ∷ []) ∷ []) ≡ (numbers I16 (negsuc 0 ∷ pos 1 ∷ []) ∷ [])
unfolding everything
to_i16_each = refl

to_i32_wraps : outputs_of op.ToI32 (number I64 (negsuc 2147483648) ∷ []) ≡ (number I32 (pos 2147483647) ∷ [])
unfolding everything
to_i32_wraps = refl

to_i32_each : outputs_of op.ToI32 (numbers I8 (negsuc 127 ∷ []) ∷ []) ≡ (numbers I32 (negsuc 127 ∷ []) ∷ [])
unfolding everything
to_i32_each = refl

to_i64_wraps : outputs_of op.ToI64 (number U64 (pos 18446744073709551615) ∷ []) ≡ (number I64 (negsuc 0) ∷ [])
unfolding everything
to_i64_wraps = refl

to_i64_each : outputs_of op.ToI64 (numbers U32 (pos 4294967295 ∷ []) ∷ []) ≡ (numbers I64 (pos 4294967295 ∷ []) ∷ [])
unfolding everything
to_i64_each = refl

to_u8_wraps : outputs_of op.ToU8 (number I16 (negsuc 0) ∷ []) ≡ (number U8 (pos 255) ∷ [])
unfolding everything
to_u8_wraps = refl

to_u8_each : outputs_of op.ToU8 (numbers I32 (pos 256 ∷ negsuc 255 ∷ []) ∷ []) ≡ (numbers U8 (pos 0 ∷ pos 0 ∷ []) ∷ [])
unfolding everything
to_u8_each = refl

to_u16_wraps : outputs_of op.ToU16 (number I8 (negsuc 127) ∷ []) ≡ (number U16 (pos 65408) ∷ [])
unfolding everything
to_u16_wraps = refl

to_u16_each : outputs_of op.ToU16 (numbers U16 ([]) ∷ []) ≡ (numbers U16 ([]) ∷ [])
unfolding everything
to_u16_each = refl

to_u32_wraps : outputs_of op.ToU32 (number I64 (negsuc 0) ∷ []) ≡ (number U32 (pos 4294967295) ∷ [])
unfolding everything
to_u32_wraps = refl

to_u32_each : outputs_of op.ToU32 (numbers U64 (pos 4294967296 ∷ pos 7 ∷ []) ∷ []) ≡ (numbers U32 (pos 0 ∷ pos 7 ∷ []) ∷ [])
unfolding everything
to_u32_each = refl

to_u64_wraps : outputs_of op.ToU64 (number I64 (negsuc 9223372036854775807) ∷ []) ≡ (number U64 (pos 9223372036854775808) ∷ [])
unfolding everything
to_u64_wraps = refl

eq_other_size : outputs_of op.Eq (numbers I8 (pos 1 ∷ []) ∷ numbers I8 (pos 1 ∷ pos 2 ∷ []) ∷ []) ≡ (value.Bool false ∷ [])
unfolding everything
eq_other_size = simp folds

eq_clusters : outputs_of op.Eq (value.Cluster (number I8 (pos 1) ∷ value.Str (codes "a") ∷ []) ∷ value.Cluster (number I8 (pos 1) ∷ value.Str (codes "a") ∷ []) ∷ []) ≡ (value.Bool true ∷ [])
unfolding everything
eq_clusters = simp folds

ne_texts : outputs_of op.Ne (value.Str (codes "a") ∷ value.Str (codes "ab") ∷ []) ≡ (value.Bool true ∷ [])
unfolding everything
ne_texts = simp folds

set_coerces : outputs_of (op.Set 0) (value.Cluster (number U8 (pos 1) ∷ value.Str (codes "a") ∷ []) ∷ number I32 (negsuc 0) ∷ []) ≡ (value.Cluster (number U8 (pos 255) ∷ value.Str (codes "a") ∷ []) ∷ [])
unfolding everything
set_coerces = simp type-Num

quotrem_both_negative : outputs_of op.QuotRem (number I32 (negsuc 6) ∷ number I32 (negsuc 1) ∷ []) ≡ (number I32 (pos 3) ∷ number I32 (negsuc 0) ∷ [])
unfolding everything
quotrem_both_negative = refl

quotrem_wide : outputs_of op.QuotRem (number I8 (negsuc 0) ∷ number U8 (pos 2) ∷ []) ≡ (number U8 (pos 127) ∷ number U8 (pos 1) ∷ [])
unfolding everything
quotrem_wide = refl

shift_right : outputs_of op.Shift (number U16 (pos 32768) ∷ number I8 (negsuc 14) ∷ []) ≡ (number U16 (pos 1) ∷ [])
unfolding everything
shift_right = refl

shift_not_at_all : outputs_of op.Shift (number I8 (negsuc 4) ∷ number U8 (pos 0) ∷ []) ≡ (number I8 (negsuc 4) ∷ [])
unfolding everything
shift_not_at_all = refl

index_text_past : outputs_of op.IndexArray ((texts ([])) ∷ number I32 (pos 0) ∷ []) ≡ (value.Str [] ∷ [])
unfolding everything
index_text_past = simp default-Str

replace_negative : outputs_of op.Replace (numbers I32 (pos 1 ∷ pos 2 ∷ []) ∷ number I32 (negsuc 0) ∷ number I32 (pos 9) ∷ []) ≡ (numbers I32 (pos 1 ∷ pos 2 ∷ []) ∷ [])
unfolding everything
replace_negative = refl

delete_below : outputs_of op.Delete (numbers I32 (pos 1 ∷ pos 2 ∷ pos 3 ∷ []) ∷ number I32 (negsuc 1) ∷ number I32 (pos 2) ∷ []) ≡ (numbers I32 (pos 3 ∷ []) ∷ numbers I32 (pos 1 ∷ pos 2 ∷ []) ∷ [])
unfolding everything
delete_below = refl

search_text : outputs_of op.Search ((texts (codes "b" ∷ codes "a" ∷ codes "a" ∷ [])) ∷ value.Str (codes "a") ∷ []) ≡ (number I32 (pos 1) ∷ [])
unfolding everything
search_text = simp folds

number_none : outputs_of op.StrNum (value.Str [] ∷ []) ≡ (number I64 (pos 0) ∷ value.Bool false ∷ [])
unfolding everything
number_none = refl

number_sign_alone : outputs_of op.StrNum (value.Str (codes "-") ∷ []) ≡ (number I64 (pos 0) ∷ value.Bool false ∷ [])
unfolding everything
number_sign_alone = refl

number_twenty_digits : outputs_of op.StrNum (value.Str (codes "-00000000000000000012") ∷ []) ≡ (number I64 (negsuc 11) ∷ value.Bool true ∷ [])
unfolding everything
number_twenty_digits = refl

number_space : outputs_of op.StrNum (value.Str (codes " 1") ∷ []) ≡ (number I64 (pos 0) ∷ value.Bool false ∷ [])
unfolding everything
number_space = refl

initialize_to_the_limit : outputs_of op.Initialize (number U8 (pos 7) ∷ number I32 (pos 5000000) ∷ []) ≡ (numbers U8 (replicate 4194304 (pos 7)) ∷ [])
unfolding everything
initialize_to_the_limit = refl

-- what is full stays as it is
full : {A : Type 0} (xs more : List A) → length xs ≡ most → within (xs ++ more) ≡ xs
full xs more e = subst (λ n. take n (xs ++ more) ≡ xs) e (take-append_seam xs more)

build_at_the_limit : (xs : List ℤ) → length xs ≡ 4194304 → outputs_of op.Build (numbers U8 xs ∷ number U8 (pos 1) ∷ []) ≡ (numbers U8 xs ∷ [])
unfolding everything
build_at_the_limit xs e = ap (λ l. numbers U8 l ∷ []) (full xs (pos 1 ∷ []) e)

concat_at_the_limit : (xs ys : List ℤ) → length xs ≡ 4194304 → outputs_of op.Concat (numbers U8 xs ∷ numbers U8 ys ∷ []) ≡ (numbers U8 xs ∷ [])
unfolding everything
concat_at_the_limit xs ys e = ap (λ l. numbers U8 l ∷ []) (full xs ys e)

text_at_the_limit : (s t : List ℕ) → length s ≡ 4194304 → outputs_of op.StrConcat (value.Str s ∷ value.Str t ∷ []) ≡ (value.Str s ∷ [])
unfolding everything
text_at_the_limit s t e = ap (λ l. value.Str l ∷ []) (full s t e)
