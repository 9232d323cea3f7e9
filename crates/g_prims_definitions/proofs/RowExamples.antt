-- The types that the primitives take and give, on worked examples, edges first.
use Rattle.std.proofs.Common.{◌≡◌, refl, [], ◌∷◌, true, false, Some, None}
use Rattle.std.specs.Prelude.{replicate}
use Rattle.std.specs.Fmt as fmt
use Rattle.g_types.specs.declared.rep.Rep.TheVariants.{I8, I16, I32, I64, U8, U16, U32, U64}
use Rattle.g_types.specs.declared.ty.Ty as types
use Rattle.g_types.specs.declared.ty.Ty.TheVariants as ty
use Rattle.g_values.specs.declared.value.Value as values
use Rattle.g_values.specs.declared.value.Value.{Value}
use Rattle.g_values.specs.declared.primitive.Primitive.TheVariants as op
use Rattle.g_prims_definitions.specs.Rows.{row_of, first_refused, is_equal_kind, selected, is_element, is_searchable}
use Rattle.g_prims_definitions.specs.Kinds.{has_reference, is_assignable_to}
use Rattle.g_prims_definitions.specs.Takes.{takes}
use Rattle.g_prims_definitions.proofs.Folds.{folds}
use Rattle.g_types.proofs.Depths.{depth-Num, depth-Bool, depth-Str, depth-Arr, depth-Cluster, depth-QueueRef, depth-ValueRef}

ruleset depths = (depth-Num, depth-Bool, depth-Str, depth-Arr, depth-Cluster, depth-QueueRef, depth-ValueRef)

unfoldable everything : Unit {0}
unfolding
    types.out-Ty values.out-Value fmt.digits
    Rattle.g_types.specs.declared.ty.Ty.TheBlock.shape-the_row-Ty-0 Rattle.g_types.specs.declared.ty.Ty.TheBlock.hidden-the_row-Ty-0
    Rattle.g_types.specs.declared.ty.Ty.TheBlock.shown-the_row-Ty-0 Rattle.g_types.specs.declared.ty.Ty.TheBlock.shape-the_row-Ty-1
    Rattle.g_types.specs.declared.ty.Ty.TheBlock.hidden-the_row-Ty-1 Rattle.g_types.specs.declared.ty.Ty.TheBlock.shown-the_row-Ty-1
    Rattle.g_values.specs.declared.value.Value.TheBlock.shape-the_row-Value-0 Rattle.g_values.specs.declared.value.Value.TheBlock.hidden-the_row-Value-0
    Rattle.g_values.specs.declared.value.Value.TheBlock.shown-the_row-Value-0
    denote.Hole.Carrier.out denote.Hole.Carrier.shown denote.Hole.Carrier.hidden
everything = tt

row_add : row_of op.Add ((ty.Num I8) ∷ (ty.Arr (ty.Num U8)) ∷ []) ≡ Some ((ty.Arr (ty.Num U8)) ∷ [])
unfolding everything
row_add = refl

row_add_bool : row_of op.Add ((ty.Num I8) ∷ ty.Bool ∷ []) ≡ None
unfolding everything
row_add_bool = refl

place_add_first : first_refused op.Add (ty.Bool ∷ (ty.Num I32) ∷ []) ≡ 1
unfolding everything
place_add_first = refl

place_add_second : first_refused op.Add ((ty.Num I32) ∷ ty.Str ∷ []) ≡ 2
unfolding everything
place_add_second = refl

place_add_missing : first_refused op.Add ((ty.Num I32) ∷ []) ≡ 2
unfolding everything
place_add_missing = refl

place_add_more : first_refused op.Add ((ty.Num I32) ∷ (ty.Num I32) ∷ (ty.Num I32) ∷ []) ≡ 3
unfolding everything
place_add_more = refl

row_and_truths : row_of op.And ((ty.Arr ty.Bool) ∷ ty.Bool ∷ []) ≡ Some ((ty.Arr ty.Bool) ∷ [])
unfolding everything
row_and_truths = refl

row_and_mixed : row_of op.And ((ty.Num I8) ∷ ty.Bool ∷ []) ≡ None
unfolding everything
row_and_mixed = refl

row_max_min : row_of op.MaxMin ((ty.Num I32) ∷ (ty.Num U32) ∷ []) ≡ Some ((ty.Num U32) ∷ (ty.Num U32) ∷ [])
unfolding everything
row_max_min = refl

row_shift : row_of op.Shift ((ty.Num I8) ∷ (ty.Num U64) ∷ []) ≡ Some ((ty.Num I8) ∷ [])
unfolding everything
row_shift = refl

row_to : row_of op.ToU16 ((ty.Arr (ty.Num I8)) ∷ []) ≡ Some ((ty.Arr (ty.Num U16)) ∷ [])
unfolding everything
row_to = refl

row_lt_mixed : row_of op.Lt ((ty.Num I8) ∷ ty.Str ∷ []) ≡ None
unfolding everything
row_lt_mixed = refl

row_select_wide : row_of op.Select (ty.Bool ∷ (ty.Num I8) ∷ (ty.Num I16) ∷ []) ≡ Some ((ty.Num I16) ∷ [])
unfolding everything
row_select_wide = refl

row_array_of_array : row_of op.Initialize ((ty.Arr (ty.Num I8)) ∷ (ty.Num I32) ∷ []) ≡ None
unfolding everything
row_array_of_array = refl

row_index : row_of op.IndexArray ((ty.Arr ty.Str) ∷ (ty.Num U8) ∷ []) ≡ Some (ty.Str ∷ [])
unfolding everything
row_index = refl

row_sort_truths : row_of op.Sort ((ty.Arr ty.Bool) ∷ []) ≡ None
unfolding everything
row_sort_truths = refl

row_unbundle : row_of op.Unbundle ((ty.Cluster ((ty.Num I8) ∷ ty.Str ∷ [])) ∷ []) ≡ Some ((ty.Num I8) ∷ ty.Str ∷ [])
unfolding everything
row_unbundle = refl

row_get : row_of (op.Get 1) ((ty.Cluster ((ty.Num I8) ∷ ty.Str ∷ [])) ∷ []) ≡ Some (ty.Str ∷ [])
unfolding everything
row_get = refl

row_get_past : row_of (op.Get 2) ((ty.Cluster ((ty.Num I8) ∷ ty.Str ∷ [])) ∷ []) ≡ None
unfolding everything
row_get_past = refl

row_delete : row_of op.Delete ((ty.Arr (ty.Num I8)) ∷ (ty.Num I32) ∷ (ty.Num I32) ∷ []) ≡ Some ((ty.Arr (ty.Num I8)) ∷ (ty.Arr (ty.Num I8)) ∷ [])
unfolding everything
row_delete = refl

row_str_num : row_of op.StrNum (ty.Str ∷ []) ≡ Some ((ty.Num I64) ∷ ty.Bool ∷ [])
unfolding everything
row_str_num = refl

row_bytes : row_of op.BytesStr ((ty.Arr (ty.Num I8)) ∷ []) ≡ None
unfolding everything
row_bytes = refl

row_sub_arrays : row_of op.Sub ((ty.Arr (ty.Num I8)) ∷ (ty.Arr (ty.Num I64)) ∷ []) ≡ Some ((ty.Arr (ty.Num I64)) ∷ [])
unfolding everything
row_sub_arrays = refl

row_mul_array_first : row_of op.Mul ((ty.Arr (ty.Num I16)) ∷ (ty.Num U8) ∷ []) ≡ Some ((ty.Arr (ty.Num I16)) ∷ [])
unfolding everything
row_mul_array_first = refl

row_mul_wide : row_of op.Mul ((ty.Num I16) ∷ (ty.Num U16) ∷ []) ≡ Some ((ty.Num U16) ∷ [])
unfolding everything
row_mul_wide = refl

row_add_texts : row_of op.Add ((ty.Arr ty.Str) ∷ (ty.Num I8) ∷ []) ≡ None
unfolding everything
row_add_texts = refl

row_inc : row_of op.Inc ((ty.Arr (ty.Num U8)) ∷ []) ≡ Some ((ty.Arr (ty.Num U8)) ∷ [])
unfolding everything
row_inc = refl

row_dec_truth : row_of op.Dec (ty.Bool ∷ []) ≡ None
unfolding everything
row_dec_truth = refl

row_neg : row_of op.Neg ((ty.Num I64) ∷ []) ≡ Some ((ty.Num I64) ∷ [])
unfolding everything
row_neg = refl

row_abs_text : row_of op.Abs (ty.Str ∷ []) ≡ None
unfolding everything
row_abs_text = refl

row_quotrem : row_of op.QuotRem ((ty.Num I8) ∷ (ty.Num I32) ∷ []) ≡ Some ((ty.Num I32) ∷ (ty.Num I32) ∷ [])
unfolding everything
row_quotrem = refl

row_quotrem_arrays : row_of op.QuotRem ((ty.Arr (ty.Num I8)) ∷ (ty.Num I32) ∷ []) ≡ None
unfolding everything
row_quotrem_arrays = refl

place_max_min : first_refused op.MaxMin ((ty.Num I8) ∷ (ty.Arr (ty.Num I8)) ∷ []) ≡ 2
unfolding everything
place_max_min = refl

row_or_wide : row_of op.Or ((ty.Num I8) ∷ (ty.Arr (ty.Num U16)) ∷ []) ≡ Some ((ty.Arr (ty.Num U16)) ∷ [])
unfolding everything
row_or_wide = refl

row_xor_truths : row_of op.Xor ((ty.Arr ty.Bool) ∷ (ty.Arr ty.Bool) ∷ []) ≡ Some ((ty.Arr ty.Bool) ∷ [])
unfolding everything
row_xor_truths = refl

row_xor_mixed : row_of op.Xor ((ty.Arr ty.Bool) ∷ (ty.Num I8) ∷ []) ≡ None
unfolding everything
row_xor_mixed = refl

row_not_truths : row_of op.Not ((ty.Arr ty.Bool) ∷ []) ≡ Some ((ty.Arr ty.Bool) ∷ [])
unfolding everything
row_not_truths = refl

row_not_text : row_of op.Not (ty.Str ∷ []) ≡ None
unfolding everything
row_not_text = refl

place_shift_array : first_refused op.Shift ((ty.Arr (ty.Num I8)) ∷ (ty.Num I8) ∷ []) ≡ 1
unfolding everything
place_shift_array = refl

row_to_i8 : row_of op.ToI8 ((ty.Num U64) ∷ []) ≡ Some ((ty.Num I8) ∷ [])
unfolding everything
row_to_i8 = refl

row_to_i16 : row_of op.ToI16 ((ty.Arr (ty.Num U64)) ∷ []) ≡ Some ((ty.Arr (ty.Num I16)) ∷ [])
unfolding everything
row_to_i16 = refl

row_to_i32 : row_of op.ToI32 ((ty.Num I32) ∷ []) ≡ Some ((ty.Num I32) ∷ [])
unfolding everything
row_to_i32 = refl

row_to_i64 : row_of op.ToI64 (ty.Bool ∷ []) ≡ None
unfolding everything
row_to_i64 = refl

row_to_u8 : row_of op.ToU8 ((ty.Num I8) ∷ []) ≡ Some ((ty.Num U8) ∷ [])
unfolding everything
row_to_u8 = refl

row_to_u32 : row_of op.ToU32 (ty.Str ∷ []) ≡ None
unfolding everything
row_to_u32 = refl

row_to_u64 : row_of op.ToU64 ((ty.Arr ty.Bool) ∷ []) ≡ None
unfolding everything
row_to_u64 = refl

row_bool_int : row_of op.BoolInt (ty.Bool ∷ []) ≡ Some ((ty.Num I16) ∷ [])
unfolding everything
row_bool_int = refl

place_bool_int : first_refused op.BoolInt ((ty.Num I8) ∷ []) ≡ 1
unfolding everything
place_bool_int = refl

row_le : row_of op.Le (ty.Str ∷ ty.Str ∷ []) ≡ Some (ty.Bool ∷ [])
unfolding everything
row_le = refl

place_gt_truth : first_refused op.Gt (ty.Bool ∷ ty.Bool ∷ []) ≡ 1
unfolding everything
place_gt_truth = refl

row_ge : row_of op.Ge ((ty.Num I8) ∷ (ty.Num U8) ∷ []) ≡ Some (ty.Bool ∷ [])
unfolding everything
row_ge = refl

place_select_number : first_refused op.Select ((ty.Num I8) ∷ (ty.Num I8) ∷ (ty.Num I8) ∷ []) ≡ 1
unfolding everything
place_select_number = refl

row_all : row_of op.All ((ty.Arr ty.Bool) ∷ []) ≡ Some (ty.Bool ∷ [])
unfolding everything
row_all = refl

row_any_numbers : row_of op.Any ((ty.Arr (ty.Num I8)) ∷ []) ≡ None
unfolding everything
row_any_numbers = refl

row_array_size : row_of op.ArraySize ((ty.Arr (ty.QueueRef (ty.Num I32))) ∷ []) ≡ Some ((ty.Num I32) ∷ [])
unfolding everything
row_array_size = refl

place_array_size : first_refused op.ArraySize (ty.Str ∷ []) ≡ 1
unfolding everything
place_array_size = refl

place_index : first_refused op.IndexArray ((ty.Arr ty.Str) ∷ ty.Bool ∷ []) ≡ 2
unfolding everything
place_index = refl

row_subset : row_of op.Subset ((ty.Arr ty.Str) ∷ (ty.Num I8) ∷ (ty.Num U64) ∷ []) ≡ Some ((ty.Arr ty.Str) ∷ [])
unfolding everything
row_subset = refl

place_subset : first_refused op.Subset ((ty.Arr ty.Str) ∷ (ty.Num I8) ∷ []) ≡ 3
unfolding everything
place_subset = refl

place_delete : first_refused op.Delete ((ty.Arr ty.Str) ∷ ty.Str ∷ (ty.Num I8) ∷ []) ≡ 2
unfolding everything
place_delete = refl

row_reverse : row_of op.Reverse ((ty.Arr (ty.QueueRef (ty.Num I32))) ∷ []) ≡ Some ((ty.Arr (ty.QueueRef (ty.Num I32))) ∷ [])
unfolding everything
row_reverse = refl

row_sort_texts : row_of op.Sort ((ty.Arr ty.Str) ∷ []) ≡ Some ((ty.Arr ty.Str) ∷ [])
unfolding everything
row_sort_texts = refl

row_sum : row_of op.Sum ((ty.Arr (ty.Num U8)) ∷ []) ≡ Some ((ty.Num U8) ∷ [])
unfolding everything
row_sum = refl

place_product : first_refused op.Product ((ty.Arr ty.Bool) ∷ []) ≡ 1
unfolding everything
place_product = refl

row_str_len : row_of op.StrLen (ty.Str ∷ []) ≡ Some ((ty.Num I32) ∷ [])
unfolding everything
row_str_len = refl

place_str_len_more : first_refused op.StrLen (ty.Str ∷ ty.Str ∷ []) ≡ 2
unfolding everything
place_str_len_more = refl

place_str_concat : first_refused op.StrConcat (ty.Str ∷ (ty.Arr (ty.Num U8)) ∷ []) ≡ 2
unfolding everything
place_str_concat = refl

row_str_subset : row_of op.StrSubset (ty.Str ∷ (ty.Num I8) ∷ (ty.Num U8) ∷ []) ≡ Some (ty.Str ∷ [])
unfolding everything
row_str_subset = refl

row_str_bytes : row_of op.StrBytes (ty.Str ∷ []) ≡ Some ((ty.Arr (ty.Num U8)) ∷ [])
unfolding everything
row_str_bytes = refl

row_bytes_str : row_of op.BytesStr ((ty.Arr (ty.Num U8)) ∷ []) ≡ Some (ty.Str ∷ [])
unfolding everything
row_bytes_str = refl

row_num_str : row_of op.NumStr ((ty.Num U64) ∷ []) ≡ Some (ty.Str ∷ [])
unfolding everything
row_num_str = refl

place_num_str : first_refused op.NumStr ([]) ≡ 1
unfolding everything
place_num_str = refl

row_bundle : row_of op.Bundle (ty.Str ∷ (ty.Arr (ty.Num I8)) ∷ []) ≡ Some ((ty.Cluster (ty.Str ∷ (ty.Arr (ty.Num I8)) ∷ [])) ∷ [])
unfolding everything
row_bundle = simp depths

place_bundle_nothing : first_refused op.Bundle ([]) ≡ 1
unfolding everything
place_bundle_nothing = refl

place_bundle_deep : first_refused op.Bundle (ty.Str ∷ (ty.ValueRef (ty.ValueRef (ty.ValueRef (ty.ValueRef (ty.ValueRef (ty.ValueRef (ty.ValueRef (ty.Num I8)))))))) ∷ ty.Str ∷ []) ≡ 2
unfolding everything
place_bundle_deep = simp depths

place_bundle_many : first_refused op.Bundle (replicate 65 (ty.Num I8)) ≡ 65
unfolding everything
place_bundle_many = simp depths

row_bundle_most : row_of op.Bundle (replicate 64 (ty.Num I8)) ≡ Some (ty.Cluster (replicate 64 (ty.Num I8)) ∷ [])
unfolding everything
row_bundle_most = simp depths

place_unbundle_array : first_refused op.Unbundle ((ty.Arr (ty.Num I8)) ∷ []) ≡ 1
unfolding everything
place_unbundle_array = refl

place_get_past : first_refused (op.Get 2) ((ty.Cluster ((ty.Num I8) ∷ ty.Str ∷ [])) ∷ []) ≡ 1
unfolding everything
place_get_past = refl

place_set_past : first_refused (op.Set 2) ((ty.Cluster ((ty.Num U8) ∷ ty.Str ∷ [])) ∷ (ty.Num I32) ∷ []) ≡ 1
unfolding everything
place_set_past = refl

takes_first_array : takes op.Add ((ty.Arr (ty.Num I8)) ∷ (ty.Arr (ty.Num I8)) ∷ []) 0 ≡ true
unfolding everything
takes_first_array = refl

reads_second_array : takes op.Add ((ty.Arr (ty.Num I8)) ∷ (ty.Arr (ty.Num I8)) ∷ []) 1 ≡ false
unfolding everything
reads_second_array = refl

takes_array_after_number : takes op.Sub ((ty.Num I8) ∷ (ty.Arr (ty.Num I8)) ∷ []) 1 ≡ true
unfolding everything
takes_array_after_number = refl

reads_number_before_array : takes op.Sub ((ty.Num I8) ∷ (ty.Arr (ty.Num I8)) ∷ []) 0 ≡ false
unfolding everything
reads_number_before_array = refl

takes_no_number : takes op.Mul ((ty.Num I8) ∷ (ty.Num I8) ∷ []) 0 ≡ false
unfolding everything
takes_no_number = refl

takes_element : takes op.Replace ((ty.Arr ty.Str) ∷ (ty.Num I8) ∷ ty.Str ∷ []) 2 ≡ true
unfolding everything
takes_element = refl

reads_index : takes op.Replace ((ty.Arr ty.Str) ∷ (ty.Num I8) ∷ ty.Str ∷ []) 1 ≡ false
unfolding everything
reads_index = refl

reads_what_is_appended : takes op.Concat ((ty.Arr ty.Str) ∷ (ty.Arr ty.Str) ∷ []) 1 ≡ false
unfolding everything
reads_what_is_appended = refl

-- the tests that rows ask
equal_numbers : is_equal_kind (ty.Num I8) (ty.Num U64) ≡ true
unfolding everything
equal_numbers = refl

equal_clusters : is_equal_kind (ty.Cluster ((ty.Num I8) ∷ ty.Str ∷ [])) (ty.Cluster ((ty.Num I8) ∷ ty.Str ∷ [])) ≡ true
unfolding everything
equal_clusters = simp folds

equal_no_other_width : is_equal_kind (ty.Arr (ty.Num I8)) (ty.Arr (ty.Num I16)) ≡ false
unfolding everything
equal_no_other_width = simp folds

equal_no_other_kind : is_equal_kind ty.Str ty.Bool ≡ false
unfolding everything
equal_no_other_kind = simp folds

reference_in_a_cluster : has_reference (ty.Cluster ((ty.Num I8) ∷ (ty.QueueRef (ty.Num I32)) ∷ [])) ≡ true
unfolding everything
reference_in_a_cluster = simp folds

no_reference : has_reference (ty.Cluster ((ty.Num I8) ∷ (ty.Arr ty.Str) ∷ [])) ≡ false
unfolding everything
no_reference = simp folds

selects_references : selected (ty.QueueRef (ty.Num I32)) (ty.QueueRef (ty.Num I32)) ≡ Some ((ty.QueueRef (ty.Num I32)) ∷ [])
unfolding everything
selects_references = simp folds

selects_no_other_kind : selected ty.Str (ty.Num I8) ≡ None
unfolding everything
selects_no_other_kind = simp folds

element_is_coerced : is_assignable_to (ty.Num I32) (Some (ty.Num U8)) ≡ true
unfolding everything
element_is_coerced = simp folds

element_of_its_type : is_assignable_to (ty.Cluster ((ty.Num I8) ∷ [])) (Some (ty.Cluster ((ty.Num I8) ∷ []))) ≡ true
unfolding everything
element_of_its_type = simp folds

element_of_no_other_kind : is_assignable_to (ty.Num I32) (Some ty.Str) ≡ false
unfolding everything
element_of_no_other_kind = simp folds

part_of_no_other_width : is_assignable_to (ty.Cluster ((ty.Num I8) ∷ [])) (Some (ty.Cluster ((ty.Num I16) ∷ []))) ≡ false
unfolding everything
part_of_no_other_width = simp folds

numbers_are_coerced : is_assignable_to (ty.Arr (ty.Num I8)) (Some (ty.Arr (ty.Num U8))) ≡ true
unfolding everything
numbers_are_coerced = simp folds

element_seven_deep : is_element (ty.ValueRef (ty.ValueRef (ty.ValueRef (ty.ValueRef (ty.ValueRef (ty.ValueRef (ty.Num I8))))))) ≡ true
unfolding everything
element_seven_deep = simp depths

no_element_eight_deep : is_element (ty.ValueRef (ty.ValueRef (ty.ValueRef (ty.ValueRef (ty.ValueRef (ty.ValueRef (ty.ValueRef (ty.Num I8)))))))) ≡ false
unfolding everything
no_element_eight_deep = simp depths

searches_numbers : is_searchable (ty.Arr (ty.Num U8)) ≡ true
unfolding everything
searches_numbers = simp folds

searches_no_references : is_searchable (ty.Arr (ty.QueueRef (ty.Num I32))) ≡ false
unfolding everything
searches_no_references = simp folds
