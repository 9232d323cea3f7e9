-- Numbers wrapped, and types compared and written, by computing.
use Rattle.std.proofs.Common.{◌≡◌, refl, ap, sym, ◌∙◌, map, inl, inr}
use Rattle.std.specs.Prelude.{[], ◌∷◌, pos, negsuc, true, false, codes}
use Rattle.g_types.specs.declared.rep.Rep.TheVariants.{I8, I16, I32, I64, U8, U16, U32, U64}
use Rattle.g_types.specs.declared.rep.Rep.{Rep}
use Rattle.g_types.specs.declared.ty.Ty.{Ty, out-Ty}
use Rattle.g_types.specs.declared.ty.Ty.TheVariants as ty
use Rattle.g_types.specs.declared.ty.Ty.TheOpen.{Ty-F}
use Rattle.g_types.specs.Rep.{wrap, wider}
use Rattle.g_types.specs.Ty.{text, depth, is_num, is_num_at, is_nums, is_nums_at, IsAssignable}
use Rattle.g_types.proofs.Texts.{texts}
use Rattle.g_types.proofs.Depths.{depth-Num, depth-Bool, depth-Str, depth-Arr, depth-Cluster, depth-QueueRef, depth-ValueRef}

-- the least and the greatest number of each representation, and the next beyond each
wraps-I8 : map (wrap I8) (negsuc 127 ∷ pos 127 ∷ negsuc 128 ∷ pos 128 ∷ []) ≡ negsuc 127 ∷ pos 127 ∷ pos 127 ∷ negsuc 127 ∷ []
wraps-I8 = refl

wraps-I16 : map (wrap I16) (negsuc 32767 ∷ pos 32767 ∷ negsuc 32768 ∷ pos 32768 ∷ []) ≡ negsuc 32767 ∷ pos 32767 ∷ pos 32767 ∷ negsuc 32767 ∷ []
wraps-I16 = refl

wraps-I32 : map (wrap I32) (negsuc 2147483647 ∷ pos 2147483647 ∷ negsuc 2147483648 ∷ pos 2147483648 ∷ []) ≡ negsuc 2147483647 ∷ pos 2147483647 ∷ pos 2147483647 ∷ negsuc 2147483647 ∷ []
wraps-I32 = refl

wraps-I64 : map (wrap I64) (negsuc 9223372036854775807 ∷ pos 9223372036854775807 ∷ negsuc 9223372036854775808 ∷ pos 9223372036854775808 ∷ []) ≡ negsuc 9223372036854775807 ∷ pos 9223372036854775807 ∷ pos 9223372036854775807 ∷ negsuc 9223372036854775807 ∷ []
wraps-I64 = refl

wraps-U8 : map (wrap U8) (pos 0 ∷ pos 255 ∷ negsuc 0 ∷ pos 256 ∷ []) ≡ pos 0 ∷ pos 255 ∷ pos 255 ∷ pos 0 ∷ []
wraps-U8 = refl

wraps-U16 : map (wrap U16) (pos 0 ∷ pos 65535 ∷ negsuc 0 ∷ pos 65536 ∷ []) ≡ pos 0 ∷ pos 65535 ∷ pos 65535 ∷ pos 0 ∷ []
wraps-U16 = refl

wraps-U32 : map (wrap U32) (pos 0 ∷ pos 4294967295 ∷ negsuc 0 ∷ pos 4294967296 ∷ []) ≡ pos 0 ∷ pos 4294967295 ∷ pos 4294967295 ∷ pos 0 ∷ []
wraps-U32 = refl

wraps-U64 : map (wrap U64) (pos 0 ∷ pos 18446744073709551615 ∷ negsuc 0 ∷ pos 18446744073709551616 ∷ []) ≡ pos 0 ∷ pos 18446744073709551615 ∷ pos 18446744073709551615 ∷ pos 0 ∷ []
wraps-U64 = refl

-- the wider; at one width the unsigned one
widths : wider I8 U16 ≡ U16
widths = refl

widths_back : wider I64 U32 ≡ I64
widths_back = refl

one_width : wider I32 U32 ≡ U32
one_width = refl

one_width_back : wider U32 I32 ≡ U32
one_width_back = refl

both_signed : wider I16 I16 ≡ I16
both_signed = refl

some_type : Ty
some_type = ty.Cluster (ty.Num I32 ∷ ty.Arr ty.Str ∷ ty.QueueRef (ty.Num U8) ∷ ty.ValueRef ty.Bool ∷ [])

writes : text some_type ≡ codes "{i32, [str], queue(u8), ref(bool)}"
unfolding some_type
writes = simp texts

two_deep : depth some_type ≡ 3
unfolding some_type
two_deep = simp (depth-Num, depth-Bool, depth-Str, depth-Arr, depth-Cluster, depth-QueueRef, depth-ValueRef)

is_num-Num : (r : Rep) → is_num (ty.Num r) ≡ true
is_num-Num r = ap is_num_at (ty.outs-Num r)

is_num-Bool : is_num ty.Bool ≡ false
is_num-Bool = ap is_num_at ty.outs-Bool

is_num-Arr : (t : Ty) → is_num (ty.Arr t) ≡ false
is_num-Arr t = ap is_num_at (ty.outs-Arr t)

is_nums-Arr : (t : Ty) → is_nums (ty.Arr t) ≡ is_num t
is_nums-Arr t = ap is_nums_at (ty.outs-Arr t)

is_nums-Bool : is_nums ty.Bool ≡ false
is_nums-Bool = ap is_nums_at ty.outs-Bool

number_to_number : IsAssignable (ty.Num I8) (ty.Num U64)
number_to_number = inr (rw (is_num-Num I8, is_num-Num U64) refl)

numbers_to_numbers : IsAssignable (ty.Arr (ty.Num U64)) (ty.Arr (ty.Num I8))
numbers_to_numbers = inr (rw (is_num-Arr (ty.Num U64), is_nums-Arr (ty.Num U64), is_nums-Arr (ty.Num I8), is_num-Num U64, is_num-Num I8) refl)

never_bool_to_number : IsAssignable ty.Bool (ty.Num I8) → ⊥
never_bool_to_number (inl e) = let levels : Ty-F.Bool ≡ Ty-F.Num I8 = sym ty.outs-Bool ∙ ap out-Ty e ∙ ty.outs-Num I8 in absurd cc
never_bool_to_number (inr t) = let never = rw (is_num-Bool, is_nums-Bool) at t in absurd cc
