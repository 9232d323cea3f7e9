-- What operations on strings and clusters give is proper.
use Rattle.std.proofs.Common.{◌≡◌, ◌≤◌, ◌<◌, ◌++◌, ◌^◌, inl, inr, ℕ, ℤ, pos, negsuc, zero, suc, Bool, true, false, ◌&&◌, ◌||◌, List, [], ◌∷◌, map, length, set, Option, None, Some, refl, ap, sym, ◌∙◌, subst, arith}
use Rattle.std.specs.Prelude.{slice_get, ◌<ℤ◌}
use Rattle.std.specs.Fmt.{signed_decimal}
use Rattle.std.specs.List.{All, list_all}
use Rattle.std.proofs.lemmas.Bool.Decides.{nat_tests}
use Rattle.std.proofs.lemmas.Fmt.{length-decimal-le}
use Rattle.std.proofs.lemmas.Int.{ints}
use Rattle.std.proofs.lemmas.List.{length-set}
use Rattle.std.proofs.lemmas.List.Elements.{All-nil, All-head, All-tail, All-set}
use Rattle.g_types.specs.declared.rep.Rep.{Rep}
use Rattle.g_types.specs.declared.rep.Rep.TheVariants.{I8, I16, I32, I64, U8, U16, U32, U64}
use Rattle.g_types.specs.declared.ty.Ty.{Ty, out-Ty}
use Rattle.g_types.specs.declared.ty.Ty.TheOpen.{Ty-F}
use Rattle.g_types.specs.declared.ty.Ty.TheVariants as ty
use Rattle.g_types.specs.Rep.{InRange}
use Rattle.g_types.specs.Same.{same_type}
use Rattle.g_types.specs.Ty.{depth, greatest, is_num, is_nums, IsAssignable}
use Rattle.g_types.proofs.Depths.{depth-Cluster}
use Rattle.g_types.proofs.SameLemmas.{same_type-true}
use Rattle.g_values.specs.Coerce.{coerced}
use Rattle.g_values.specs.Proper.{IsProper, most}
use Rattle.g_values.specs.Value.{type_of}
use Rattle.g_values.specs.declared.value.Value.{Value, out-Value}
use Rattle.g_values.specs.declared.value.Value.TheVariants as value
use Rattle.g_values.specs.declared.value.Value.TheOpen.{Value-F}
use Rattle.g_values.specs.declared.value.Value.TheViews.{roll-Value, roll-out-Value}
use Rattle.g_values.proofs.CoercedValues.{coerced-of_type}
use Rattle.g_values.proofs.ProperLemmas.{proper_bool, proper_nums, proper_parts, proper_cluster, layer-of_cluster}
use Rattle.g_values.proofs.ProperParts.{proper_text}
use Rattle.g_values.proofs.TypesOf.{type-Num, type-Bool, type-Str, type-Nums, type-Arr, type-Cluster, type-Queue, type-Cell}
use Rattle.g_prims_definitions.specs.Arithmetic.{numbers}
use Rattle.g_prims_definitions.specs.Arrays.{subset, within, number_at}
use Rattle.g_prims_definitions.specs.Bits.{bits}
use Rattle.g_prims_definitions.specs.Clusters.{parts_at, part_at, with_part}
use Rattle.g_prims_definitions.specs.Kinds.{is_assignable, is_assignable_to, part, part_of, parts_at as types_at}
use Rattle.g_prims_definitions.specs.Rows.{is_shallow}
use Rattle.g_prims_definitions.specs.Strings.{text_at, byte_list, told}
use Rattle.g_prims_evaluation.proofs.ProperNumbers.{few_map, proper_number, proper_two}
use Rattle.g_prims_evaluation.proofs.ProperArrays.{Kept, few_subset, few_within}

-- strings

few_text : (a : Value-F Value) → Kept a → length (text_at a) ≤ most
few_text (Value-F.Str s) p = p
few_text (Value-F.Num x) p = omega arith
few_text (Value-F.Bool x) p = omega arith
few_text (Value-F.Nums x) p = omega arith
few_text (Value-F.Arr x) p = omega arith
few_text (Value-F.Cluster x) p = omega arith
few_text (Value-F.Queue x) p = omega arith
few_text (Value-F.Cell x) p = omega arith

pub proper-joined : (s t : List ℕ) → IsProper (value.Str (within (s ++ t)))
proper-joined s t = proper_text _ (few_within _)

pub proper-part : (a : Value-F Value) (i n : ℤ) → Kept a → IsProper (value.Str (subset i n (text_at a)))
proper-part a i n p = proper_text _ (few_subset i n (text_at a) (few_text a p))

pub proper-bytes : (a : Value-F Value) → Kept a → IsProper (numbers U8 (map pos (text_at a)))
proper-bytes a p = proper_nums _ (few_map pos (text_at a) (few_text a p))

few_numbers_at : (a : Value-F Value) → Kept a → length (byte_list a) ≤ most
few_numbers_at (Value-F.Nums xs) p = p
few_numbers_at (Value-F.Str s) p = omega arith
few_numbers_at (Value-F.Num x) p = omega arith
few_numbers_at (Value-F.Bool x) p = omega arith
few_numbers_at (Value-F.Arr x) p = omega arith
few_numbers_at (Value-F.Cluster x) p = omega arith
few_numbers_at (Value-F.Queue x) p = omega arith
few_numbers_at (Value-F.Cell x) p = omega arith

pub proper-text : (a : Value-F Value) → Kept a → IsProper (value.Str (map (bits U8) (byte_list a)))
proper-text a p = proper_text _ (few_map (bits U8) (byte_list a) (few_numbers_at a p))

few_digits : (n : ℕ) → n < 2 ^ 64 → length (signed_decimal (pos n)) ≤ most
few_digits n h = let e = length-decimal-le 20 n (omega arith) (omega arith) h in omega arith

few_signed : (n : ℕ) → suc n < 2 ^ 64 → length (signed_decimal (negsuc n)) ≤ most
few_signed n h = let e = length-decimal-le 20 (suc n) (omega arith) (omega arith) h in omega arith

pub record IsNear (z : ℤ) : Type 0 where
  pub above : negsuc (2 ^ 63) <ℤ z
  pub below : z <ℤ pos (2 ^ 64)

near : (r : Rep) (z : ℤ) → InRange r z → IsNear z
near I8 z h = let l = h.low in let u = h.high in record { above = omega (arith, ints); below = omega (arith, ints) }
near I16 z h = let l = h.low in let u = h.high in record { above = omega (arith, ints); below = omega (arith, ints) }
near I32 z h = let l = h.low in let u = h.high in record { above = omega (arith, ints); below = omega (arith, ints) }
near I64 z h = let l = h.low in let u = h.high in record { above = omega (arith, ints); below = omega (arith, ints) }
near U8 z h = let l = h.low in let u = h.high in record { above = omega (arith, ints); below = omega (arith, ints) }
near U16 z h = let l = h.low in let u = h.high in record { above = omega (arith, ints); below = omega (arith, ints) }
near U32 z h = let l = h.low in let u = h.high in record { above = omega (arith, ints); below = omega (arith, ints) }
near U64 z h = let l = h.low in let u = h.high in record { above = omega (arith, ints); below = omega (arith, ints) }

few_decimal : (z : ℤ) → IsNear z → length (signed_decimal z) ≤ most
few_decimal (pos n) h = let u = h.below in few_digits n (omega (arith, ints))
few_decimal (negsuc n) h = let l = h.above in few_signed n (omega (arith, ints))

zero_text : length (signed_decimal (pos 0)) ≤ most
zero_text = few_digits 0 (omega arith)

pub proper-decimal : (a : Value-F Value) → IsProper (value.Str (signed_decimal (number_at a)))
proper-decimal (Value-F.Num x) = proper_text (signed_decimal x.n) (few_decimal x.n (near x.rep x.n x.in_range))
proper-decimal (Value-F.Str s) = proper_text _ zero_text
proper-decimal (Value-F.Bool x) = proper_text _ zero_text
proper-decimal (Value-F.Nums x) = proper_text _ zero_text
proper-decimal (Value-F.Arr x) = proper_text _ zero_text
proper-decimal (Value-F.Cluster x) = proper_text _ zero_text
proper-decimal (Value-F.Queue x) = proper_text _ zero_text
proper-decimal (Value-F.Cell x) = proper_text _ zero_text

pub proper-told : (o : Option ℤ) → All IsProper (told o)
proper-told None = proper_two _ _ (proper_number I64 (pos 0)) (proper_bool false)
proper-told (Some n) = proper_two _ _ (proper_number I64 n) (proper_bool true)

-- clusters

pub proper-parts : (a : Value-F Value) → Kept a → All IsProper (parts_at a)
proper-parts (Value-F.Cluster vs) p = proper_parts vs p
proper-parts (Value-F.Str s) p = All-nil IsProper
proper-parts (Value-F.Num x) p = All-nil IsProper
proper-parts (Value-F.Bool x) p = All-nil IsProper
proper-parts (Value-F.Nums x) p = All-nil IsProper
proper-parts (Value-F.Arr x) p = All-nil IsProper
proper-parts (Value-F.Queue x) p = All-nil IsProper
proper-parts (Value-F.Cell x) p = All-nil IsProper

pub proper-part_at : (vs : List Value) (k : ℕ) → All IsProper vs → IsProper (part_at vs k)
proper-part_at [] k h = proper_bool false
proper-part_at (v ∷ vs) zero h = All-head IsProper v vs h
proper-part_at (v ∷ vs) (suc k) h = proper-part_at vs k (All-tail IsProper v vs h)

assignable : (a b : Ty) → is_assignable a b ≡ true → IsAssignable a b
assignable a b h = by_same (same_type a b) refl h
  where
    by_same : (s : Bool) → s ≡ same_type a b → (s || ((is_num a && is_num b) || (is_nums a && is_nums b))) ≡ true → IsAssignable a b
    by_same true e k = inl (same_type-true a b (sym e))
    by_same false e k = inr k

abbrev IsPlaced : List Value → ℕ → Ty → Value → Type 0
IsPlaced vs k u w = (is_assignable u (type_of (part_at vs k)) ≡ true) × (type_of w ≡ type_of (part_at vs k) → map type_of (set vs k w) ≡ map type_of vs)

placed : (vs : List Value) (k : ℕ) (u : Ty) (w : Value) → is_assignable_to u (slice_get (map type_of vs) k) ≡ true → IsPlaced vs k u w
placed [] k u w h = absurd cc
placed (v ∷ vs) zero u w h = (h, λ e. ap (λ t. t ∷ map type_of vs) e)
placed (v ∷ vs) (suc k) u w h = let r = placed vs k u w h in (r.0, λ e. ap (λ l. type_of v ∷ l) (r.1 e))

put_cluster : (vs : List Value) (k : ℕ) (e : Value) → IsProper (value.Cluster vs) → IsProper e → is_assignable_to (type_of e) (slice_get (map type_of vs) k) ≡ true → IsProper (value.Cluster (with_part vs k e))
put_cluster vs k e p q h =
    let t = type_of (part_at vs k) in
    let w = coerced e t in
    let r = placed vs k (type_of e) w h in
    let o = coerced-of_type e t q (assignable (type_of e) t r.0) in
    let n = length-set vs k w in
    let c = layer-of_cluster vs p.whole in
    let few = c.few in
    let some = c.some in
    let same : type_of (value.Cluster (set vs k w)) ≡ type_of (value.Cluster vs) = type-Cluster (set vs k w) ∙ ap ty.Cluster (r.1 o.of_type) ∙ sym (type-Cluster vs) in
    proper_cluster (set vs k w) (record { some = omega arith; few = omega arith }) (subst (λ u. depth u ≤ 8) (sym same) p.spelled.shallow) (All-set IsProper vs k w o.proper (proper_parts vs p))

no_part : (a w : Value) (t : Ty) (m : Ty-F Ty) (k : ℕ) (u : Ty) → a ≡ w → type_of w ≡ t → out-Ty t ≡ m → is_assignable_to u (part_of k (types_at m)) ≡ false → is_assignable_to u (part k (type_of a)) ≡ true → true ≡ false
no_part a w t m k u e f g h i = sym i ∙ ap (λ z. is_assignable_to u (part k z)) (ap type_of e ∙ f) ∙ ap (λ z. is_assignable_to u (part_of k (types_at z))) g ∙ h

put_at : (a : Value) (l : Value-F Value) (k : ℕ) (e : Value) → out-Value a ≡ l → Kept l → IsProper e → is_assignable_to (type_of e) (part k (type_of a)) ≡ true → IsProper (value.Cluster (with_part (parts_at l) k e))
put_at a (Value-F.Cluster vs) k e is p q h =
    let t : type_of a ≡ ty.Cluster (map type_of vs) = ap type_of (sym (roll-out-Value a) ∙ ap roll-Value is ∙ value.rolls-Cluster vs) ∙ type-Cluster vs in
    put_cluster vs k e p q (sym (ap (λ z. is_assignable_to (type_of e) (part k z)) t ∙ ap (λ z. is_assignable_to (type_of e) (part_of k (types_at z))) (ty.outs-Cluster (map type_of vs))) ∙ h)
put_at a (Value-F.Num x) k e is p q h = absurd (let n = no_part a (value.Num x) _ _ k (type_of e) (sym (roll-out-Value a) ∙ ap roll-Value is ∙ value.rolls-Num x) (type-Num x) (ty.outs-Num x.rep) refl h in cc)
put_at a (Value-F.Bool x) k e is p q h = absurd (let n = no_part a (value.Bool x) _ _ k (type_of e) (sym (roll-out-Value a) ∙ ap roll-Value is ∙ value.rolls-Bool x) (type-Bool x) ty.outs-Bool refl h in cc)
put_at a (Value-F.Str x) k e is p q h = absurd (let n = no_part a (value.Str x) _ _ k (type_of e) (sym (roll-out-Value a) ∙ ap roll-Value is ∙ value.rolls-Str x) (type-Str x) ty.outs-Str refl h in cc)
put_at a (Value-F.Nums x) k e is p q h = absurd (let n = no_part a (value.Nums x) _ _ k (type_of e) (sym (roll-out-Value a) ∙ ap roll-Value is ∙ value.rolls-Nums x) (type-Nums x) (ty.outs-Arr (ty.Num x.rep)) refl h in cc)
put_at a (Value-F.Arr x) k e is p q h = absurd (let n = no_part a (value.Arr x) _ _ k (type_of e) (sym (roll-out-Value a) ∙ ap roll-Value is ∙ value.rolls-Arr x) (type-Arr x) (ty.outs-Arr x.elem) refl h in cc)
put_at a (Value-F.Queue x) k e is p q h = absurd (let n = no_part a (value.Queue x) _ _ k (type_of e) (sym (roll-out-Value a) ∙ ap roll-Value is ∙ value.rolls-Queue x) (type-Queue x) (ty.outs-QueueRef x.elem) refl h in cc)
put_at a (Value-F.Cell x) k e is p q h = absurd (let n = no_part a (value.Cell x) _ _ k (type_of e) (sym (roll-out-Value a) ∙ ap roll-Value is ∙ value.rolls-Cell x) (type-Cell x) (ty.outs-ValueRef x.elem) refl h in cc)

pub proper-put : (a : Value) (k : ℕ) (e : Value) → Kept (out-Value a) → IsProper e → is_assignable_to (type_of e) (part k (type_of a)) ≡ true → IsProper (value.Cluster (with_part (parts_at (out-Value a)) k e))
proper-put a k e p q h = put_at a (out-Value a) k e refl p q h

all_shallow : (vs : List Value) → list_all is_shallow (map type_of vs) ≡ true → greatest (map depth (map type_of vs)) ≤ 7
all_shallow [] h = omega arith
all_shallow (v ∷ vs) h =
    let b = both (is_shallow (type_of v)) (list_all is_shallow (map type_of vs)) h in
    let here : depth (type_of v) ≤ 7 = grind (arith, nat_tests) in
    let rest = all_shallow vs b.1 in
    omega arith
  where
    both : (x y : Bool) → (x && y) ≡ true → (x ≡ true) × (y ≡ true)
    both true y e = (refl, e)
    both false y e = absurd cc

pub proper-bundled : (v : Value) (vs : List Value) → All IsProper (v ∷ vs) → length (v ∷ vs) ≤ 64 → list_all is_shallow (map type_of (v ∷ vs)) ≡ true → IsProper (value.Cluster (v ∷ vs))
proper-bundled v vs all few shallow =
    let e = ap depth (type-Cluster (v ∷ vs)) ∙ depth-Cluster (map type_of (v ∷ vs)) in
    let d = all_shallow (v ∷ vs) shallow in
    proper_cluster (v ∷ vs) (record { some = omega arith; few = few }) (omega arith) all
