-- The types of what operations on numbers and Booleans give, by the levels of their inputs.
use Rattle.std.proofs.Common.{◌≡◌, ℤ, Bool, true, false, cond, ◌&&◌, ◌||◌, List, [], ◌∷◌, map, Option, None, Some, refl, ap, sym, ◌∙◌}
use Rattle.g_types.specs.declared.rep.Rep.{Rep}
use Rattle.g_types.specs.declared.rep.Rep.TheVariants.{I8, I16, I32, I64, U8, U16, U32, U64}
use Rattle.g_types.specs.declared.ty.Ty.{Ty, out-Ty}
use Rattle.g_types.specs.declared.ty.Ty.TheOpen.{Ty-F}
use Rattle.g_types.specs.declared.ty.Ty.TheVariants as ty
use Rattle.g_types.specs.Rep.{wrap, wider}
use Rattle.g_types.specs.Ty.{is_num_at, is_nums_at}
use Rattle.g_values.specs.Number.{num_of}
use Rattle.g_values.specs.Coerce.{coerced_numbers}
use Rattle.g_values.specs.Proper.{IsLayer}
use Rattle.g_values.specs.Value.{type_of}
use Rattle.g_values.specs.declared.value.Value.{Value, out-Value}
use Rattle.g_values.specs.declared.value.Value.TheVariants as value
use Rattle.g_values.specs.declared.value.Value.TheOpen.{Value-F}
use Rattle.g_values.proofs.TypesOf.{type-Num, type-Bool, type-Nums, type-Arr}
use Rattle.g_prims_definitions.specs.Arithmetic.{arithmetic_at, zipped, left, right, each_at, mapped, converted_at, pair_at, folded_at}
use Rattle.g_prims_definitions.specs.Bits.{bitwise_at, inverted_at, shift_at, shifted, turned}
use Rattle.g_prims_definitions.specs.Comparisons.{chosen_at}
use Rattle.g_prims_definitions.specs.Kinds.{is_bool_at, is_bools_at, wide_at, array_of, item, item_at, elementwise, elementwise_at}
use Rattle.g_prims_definitions.specs.Rows.{twice, when}
use Rattle.g_prims_laws.proofs.Levels.{type_at, level_at, level_is, known, array_known, bool_type, first_no_number, second_no_number}
use Rattle.g_prims_laws.proofs.Shapes.{when_is}

-- the row of operations element by element, by the levels of the types

abbrev pub by_items : Option Ty → Option Ty → Ty-F Ty → Ty-F Ty → Option Ty
by_items None None k m = wide_at k m
by_items (Some a) None k m = array_of (wide_at (out-Ty a) m)
by_items None (Some b) k m = array_of (wide_at k (out-Ty b))
by_items (Some a) (Some b) k m = array_of (wide_at (out-Ty a) (out-Ty b))

abbrev pub by_levels : Ty-F Ty → Ty-F Ty → Option Ty
by_levels k m = by_items (item_at k) (item_at m) k m

same_row : (o p : Option Ty) (t u : Ty) → elementwise_at o p t u ≡ by_items o p (out-Ty t) (out-Ty u)
same_row None None t u = refl
same_row (Some a) None t u = refl
same_row None (Some b) t u = refl
same_row (Some a) (Some b) t u = refl

pub elementwise_is : (x y : Value) → elementwise (type_of x) (type_of y) ≡ by_levels (level_at (out-Value x)) (level_at (out-Value y))
elementwise_is x y =
    same_row (item (type_of x)) (item (type_of y)) (type_of x) (type_of y)
    ∙ ap (λ k. by_levels k (out-Ty (type_of y))) (level_is x)
    ∙ ap (by_levels (level_at (out-Value x))) (level_is y)

abbrev pub numeric_at : Ty-F Ty → Bool
numeric_at k = is_num_at k || is_nums_at k

abbrev pub bits_at : Ty-F Ty → Bool
bits_at k = numeric_at k || (is_bool_at k || is_bools_at k)

-- a number goes with numbers alone
number_with : (k : Ty-F Ty) (r : Rep) (t : Ty) → is_num_at k ≡ false → array_of (wide_at (Ty-F.Num r) k) ≡ Some t → ⊥
number_with k r t n e =
    let a = array_known (wide_at (Ty-F.Num r) k) t e in
    let b = second_no_number (Ty-F.Num r) k a.0 n a.1 in
    let c = b.0 in
    cc

with_number : (k : Ty-F Ty) (r : Rep) (t : Ty) → is_num_at k ≡ false → array_of (wide_at k (Ty-F.Num r)) ≡ Some t → ⊥
with_number k r t n e =
    let a = array_known (wide_at k (Ty-F.Num r)) t e in
    let b = first_no_number k (Ty-F.Num r) a.0 n a.1 in
    let c = b.1 in
    cc

right_type : (r s : Rep) (t : Ty) → array_of (wide_at (Ty-F.Num r) (out-Ty (ty.Num s))) ≡ Some t → ty.Arr (ty.Num (wider r s)) ≡ t
right_type r s t e = known (ty.Arr (ty.Num (wider r s))) t (sym (ap (λ k. array_of (wide_at (Ty-F.Num r) k)) (ty.outs-Num s)) ∙ e)

left_type : (r s : Rep) (t : Ty) → array_of (wide_at (out-Ty (ty.Num r)) (Ty-F.Num s)) ≡ Some t → ty.Arr (ty.Num (wider r s)) ≡ t
left_type r s t e = known (ty.Arr (ty.Num (wider r s))) t (sym (ap (λ k. array_of (wide_at k (Ty-F.Num s))) (ty.outs-Num r)) ∙ e)

both_type : (r s : Rep) (t : Ty) → array_of (wide_at (out-Ty (ty.Num r)) (out-Ty (ty.Num s))) ≡ Some t → ty.Arr (ty.Num (wider r s)) ≡ t
both_type r s t e = right_type r s t (sym (ap (λ k. array_of (wide_at k (out-Ty (ty.Num s)))) (ty.outs-Num r)) ∙ e)

numbers_with : (k : Ty-F Ty) (r : Rep) (t : Ty) → is_num_at k ≡ false → array_of (wide_at (out-Ty (ty.Num r)) k) ≡ Some t → ⊥
numbers_with k r t n e = number_with k r t n (sym (ap (λ l. array_of (wide_at l k)) (ty.outs-Num r)) ∙ e)

with_numbers : (k : Ty-F Ty) (r : Rep) (t : Ty) → is_num_at k ≡ false → array_of (wide_at k (out-Ty (ty.Num r))) ≡ Some t → ⊥
with_numbers k r t n e = with_number k r t n (sym (ap (λ l. array_of (wide_at k l)) (ty.outs-Num r)) ∙ e)

pub typed-arithmetic : (f : ℤ → ℤ → ℤ) (a b : Value-F Value) (t : Ty) → IsLayer a → IsLayer b → numeric_at (level_at a) ≡ true → by_levels (level_at a) (level_at b) ≡ Some t → type_of (arithmetic_at f a b) ≡ t
typed-arithmetic f (Value-F.Num x) (Value-F.Num y) t p q n e = type-Num (num_of (wider x.rep y.rep) (f x.n y.n)) ∙ known (ty.Num (wider x.rep y.rep)) t e
typed-arithmetic f (Value-F.Num x) (Value-F.Nums ys) t p q n e = type-Nums (right f (wider x.rep ys.rep) x.n ys) ∙ right_type x.rep ys.rep t e
typed-arithmetic f (Value-F.Num x) (Value-F.Arr ys) t p q n e = absurd (number_with (out-Ty ys.elem) x.rep t q.no_number e)
typed-arithmetic f (Value-F.Num x) _ t p q n e = absurd cc
typed-arithmetic f (Value-F.Nums xs) (Value-F.Num y) t p q n e = type-Nums (left f (wider xs.rep y.rep) xs y.n) ∙ left_type xs.rep y.rep t e
typed-arithmetic f (Value-F.Nums xs) (Value-F.Nums ys) t p q n e = type-Nums (zipped f xs ys) ∙ both_type xs.rep ys.rep t e
typed-arithmetic f (Value-F.Nums xs) (Value-F.Arr ys) t p q n e = absurd (numbers_with (out-Ty ys.elem) xs.rep t q.no_number e)
typed-arithmetic f (Value-F.Nums xs) (Value-F.Bool b) t p q n e = absurd (numbers_with Ty-F.Bool xs.rep t refl e)
typed-arithmetic f (Value-F.Nums xs) (Value-F.Str s) t p q n e = absurd (numbers_with Ty-F.Str xs.rep t refl e)
typed-arithmetic f (Value-F.Nums xs) (Value-F.Cluster vs) t p q n e = absurd (numbers_with (Ty-F.Cluster (map type_of vs)) xs.rep t refl e)
typed-arithmetic f (Value-F.Nums xs) (Value-F.Queue r) t p q n e = absurd (numbers_with (Ty-F.QueueRef r.elem) xs.rep t refl e)
typed-arithmetic f (Value-F.Nums xs) (Value-F.Cell r) t p q n e = absurd (numbers_with (Ty-F.ValueRef r.elem) xs.rep t refl e)
typed-arithmetic f (Value-F.Arr xs) b t p q n e = let no = p.no_number in absurd cc
typed-arithmetic f _ b t p q n e = absurd cc

pub typed-each : (f : ℤ → ℤ) (a : Value-F Value) → IsLayer a → numeric_at (level_at a) ≡ true → type_of (each_at f a) ≡ type_at a
typed-each f (Value-F.Num x) p n = type-Num (num_of x.rep (f x.n))
typed-each f (Value-F.Nums xs) p n = type-Nums (mapped f xs)
typed-each f (Value-F.Arr xs) p n = let no = p.no_number in absurd cc
typed-each f _ p n = absurd cc

pub typed-converted : (r : Rep) (a : Value-F Value) (os : List Ty) → IsLayer a
    → cond (is_num_at (level_at a)) (Some (ty.Num r ∷ [])) (when (is_nums_at (level_at a)) (ty.Arr (ty.Num r) ∷ [])) ≡ Some os → type_of (converted_at r a) ∷ [] ≡ os
typed-converted r (Value-F.Num x) os p e = ap (λ t. t ∷ []) (type-Num (num_of r x.n)) ∙ known (ty.Num r ∷ []) os e
typed-converted r (Value-F.Nums xs) os p e = ap (λ t. t ∷ []) (type-Nums (coerced_numbers r xs)) ∙ (when_is (is_nums_at (Ty-F.Arr (ty.Num xs.rep))) (ty.Arr (ty.Num r) ∷ []) os e).1
typed-converted r (Value-F.Arr xs) os p e = let no = p.no_number in let w = (when_is (is_num_at (out-Ty xs.elem)) (ty.Arr (ty.Num r) ∷ []) os e).0 in absurd cc
typed-converted r _ os p e = absurd cc

pub typed-pair : (f g : ℤ → ℤ → ℤ) (a b : Value-F Value) (os : List Ty) → is_num_at (level_at a) ≡ true → twice (wide_at (level_at a) (level_at b)) ≡ Some os → map type_of (pair_at f g a b) ≡ os
typed-pair f g (Value-F.Num x) (Value-F.Num y) os n e =
    let r = wider x.rep y.rep in
    let m = num_of r (f (wrap r x.n) (wrap r y.n)) in
    let k = num_of r (g (wrap r x.n) (wrap r y.n)) in
    ap (λ t. t ∷ type_of (value.Num k) ∷ []) (type-Num m) ∙ ap (λ t. ty.Num r ∷ t ∷ []) (type-Num k) ∙ known (ty.Num r ∷ ty.Num r ∷ []) os e
typed-pair f g (Value-F.Num x) _ os n e = absurd cc
typed-pair f g _ b os n e = absurd cc

pub typed-shift : (a b : Value-F Value) → is_num_at (level_at a) ≡ true → is_num_at (level_at b) ≡ true → type_of (shift_at a b) ≡ type_at a
typed-shift (Value-F.Num x) (Value-F.Num n) h k = type-Num (num_of x.rep (shifted x.rep x.n n.n))
typed-shift (Value-F.Num x) _ h k = absurd cc
typed-shift _ b h k = absurd cc

-- Booleans

bool_with : (u t : Ty) → array_of (wide_at Ty-F.Bool (out-Ty u)) ≡ Some t → ty.Arr u ≡ t
bool_with u t e =
    let a = array_known (wide_at Ty-F.Bool (out-Ty u)) t e in
    let b = first_no_number Ty-F.Bool (out-Ty u) a.0 refl a.1 in
    ap ty.Arr (bool_type u b.1 ∙ b.2) ∙ a.2

with_bool : (u t : Ty) → array_of (wide_at (out-Ty u) Ty-F.Bool) ≡ Some t → ty.Arr u ≡ t
with_bool u t e =
    let a = array_known (wide_at (out-Ty u) Ty-F.Bool) t e in
    let b = second_no_number (out-Ty u) Ty-F.Bool a.0 refl a.1 in
    ap ty.Arr (bool_type u b.0 ∙ b.2) ∙ a.2

bools_with : (u w t : Ty) → is_num_at (out-Ty u) ≡ false → array_of (wide_at (out-Ty u) (out-Ty w)) ≡ Some t → (ty.Arr u ≡ t) × (ty.Arr w ≡ t)
bools_with u w t n e =
    let a = array_known (wide_at (out-Ty u) (out-Ty w)) t e in
    let b = first_no_number (out-Ty u) (out-Ty w) a.0 n a.1 in
    (ap ty.Arr (bool_type u b.0 ∙ b.2) ∙ a.2, ap ty.Arr (bool_type w b.1 ∙ b.2) ∙ a.2)

-- an array of no numbers goes with what is or holds Booleans alone
array_with : (u : Ty) (m : Ty-F Ty) (t : Ty) → is_num_at (out-Ty u) ≡ false → is_bool_at m ≡ false → array_of (wide_at (out-Ty u) m) ≡ Some t → ⊥
array_with u m t n o e =
    let a = array_known (wide_at (out-Ty u) m) t e in
    let b = first_no_number (out-Ty u) m a.0 n a.1 in
    let c = b.1 in
    cc

pub typed-bitwise : (f : ℤ → ℤ → ℤ) (g : Bool → Bool → Bool) (a b : Value-F Value) (t : Ty) → IsLayer a → IsLayer b → by_levels (level_at a) (level_at b) ≡ Some t → type_of (bitwise_at f g a b) ≡ t
typed-bitwise f g (Value-F.Bool x) (Value-F.Bool y) t p q e = type-Bool (g x y) ∙ known ty.Bool t e
typed-bitwise f g (Value-F.Bool x) (Value-F.Arr ys) t p q e = type-Arr _ ∙ bool_with ys.elem t e
typed-bitwise f g (Value-F.Bool x) (Value-F.Nums ys) t p q e = absurd (with_numbers Ty-F.Bool ys.rep t refl e)
typed-bitwise f g (Value-F.Bool x) _ t p q e = absurd cc
typed-bitwise f g (Value-F.Arr xs) (Value-F.Bool y) t p q e = type-Arr _ ∙ with_bool xs.elem t e
typed-bitwise f g (Value-F.Arr xs) (Value-F.Arr ys) t p q e = type-Arr _ ∙ (bools_with xs.elem ys.elem t p.no_number e).0
typed-bitwise f g (Value-F.Arr xs) (Value-F.Nums ys) t p q e = absurd (with_numbers (out-Ty xs.elem) ys.rep t p.no_number e)
typed-bitwise f g (Value-F.Arr xs) (Value-F.Num y) t p q e = absurd (with_number (out-Ty xs.elem) y.rep t p.no_number e)
typed-bitwise f g (Value-F.Arr xs) (Value-F.Str s) t p q e = absurd (array_with xs.elem Ty-F.Str t p.no_number refl e)
typed-bitwise f g (Value-F.Arr xs) (Value-F.Cluster vs) t p q e = absurd (array_with xs.elem (Ty-F.Cluster (map type_of vs)) t p.no_number refl e)
typed-bitwise f g (Value-F.Arr xs) (Value-F.Queue r) t p q e = absurd (array_with xs.elem (Ty-F.QueueRef r.elem) t p.no_number refl e)
typed-bitwise f g (Value-F.Arr xs) (Value-F.Cell r) t p q e = absurd (array_with xs.elem (Ty-F.ValueRef r.elem) t p.no_number refl e)
typed-bitwise f g (Value-F.Num x) b t p q e = typed-arithmetic f (Value-F.Num x) b t p q refl e
typed-bitwise f g (Value-F.Nums xs) b t p q e = typed-arithmetic f (Value-F.Nums xs) b t p q (ap is_num_at (ty.outs-Num xs.rep)) e
typed-bitwise f g (Value-F.Str s) b t p q e = absurd (none_with Ty-F.Str b t e)
  where
    none_with : (k : Ty-F Ty) (b : Value-F Value) (t : Ty) → by_levels Ty-F.Str (level_at b) ≡ Some t → ⊥
    none_with k (Value-F.Nums ys) t e = cc
    none_with k (Value-F.Arr ys) t e = cc
    none_with k _ t e = cc
typed-bitwise f g (Value-F.Cluster vs) (Value-F.Nums ys) t p q e = absurd cc
typed-bitwise f g (Value-F.Cluster vs) (Value-F.Arr ys) t p q e = absurd cc
typed-bitwise f g (Value-F.Cluster vs) _ t p q e = absurd cc
typed-bitwise f g (Value-F.Queue r) (Value-F.Nums ys) t p q e = absurd cc
typed-bitwise f g (Value-F.Queue r) (Value-F.Arr ys) t p q e = absurd cc
typed-bitwise f g (Value-F.Queue r) _ t p q e = absurd cc
typed-bitwise f g (Value-F.Cell r) (Value-F.Nums ys) t p q e = absurd cc
typed-bitwise f g (Value-F.Cell r) (Value-F.Arr ys) t p q e = absurd cc
typed-bitwise f g (Value-F.Cell r) _ t p q e = absurd cc

pub typed-inverted : (a : Value-F Value) → IsLayer a → bits_at (level_at a) ≡ true → type_of (inverted_at a) ≡ type_at a
typed-inverted (Value-F.Bool b) p n = type-Bool _
typed-inverted (Value-F.Arr xs) p n = type-Arr _
typed-inverted (Value-F.Num x) p n = typed-each turned (Value-F.Num x) p refl
typed-inverted (Value-F.Nums xs) p n = typed-each turned (Value-F.Nums xs) p (ap is_num_at (ty.outs-Num xs.rep))
typed-inverted _ p n = absurd cc

-- a choice

widers : (r s : Rep) → wider r s ≡ wider s r
widers I8 I8 = refl
widers I8 _ = refl
widers I16 I16 = refl
widers I16 _ = refl
widers I32 I32 = refl
widers I32 _ = refl
widers I64 I64 = refl
widers I64 _ = refl
widers U8 U8 = refl
widers U8 _ = refl
widers U16 U16 = refl
widers U16 _ = refl
widers U32 U32 = refl
widers U32 _ = refl
widers U64 U64 = refl
widers U64 _ = refl

-- where both are numbers, in the wider representation
pub chosen_numbers : (a b : Value-F Value) (v : Value) (t : Ty) → (is_num_at (level_at a) && is_num_at (level_at b)) ≡ true → wide_at (level_at a) (level_at b) ≡ Some t → type_of (chosen_at a b v) ≡ t
chosen_numbers (Value-F.Num x) (Value-F.Num y) v t n e = type-Num (num_of (wider x.rep y.rep) x.n) ∙ known (ty.Num (wider x.rep y.rep)) t e
chosen_numbers (Value-F.Num x) _ v t n e = absurd cc
chosen_numbers _ b v t n e = absurd cc

pub other_numbers : (a b : Value-F Value) (v : Value) (t : Ty) → (is_num_at (level_at a) && is_num_at (level_at b)) ≡ true → wide_at (level_at a) (level_at b) ≡ Some t → type_of (chosen_at b a v) ≡ t
other_numbers (Value-F.Num x) (Value-F.Num y) v t n e = type-Num (num_of (wider y.rep x.rep) y.n) ∙ ap ty.Num (widers y.rep x.rep) ∙ known (ty.Num (wider x.rep y.rep)) t e
other_numbers (Value-F.Num x) _ v t n e = absurd cc
other_numbers _ b v t n e = absurd cc

-- else it stays
pub chosen_same : (a b : Value-F Value) (v : Value) → (is_num_at (level_at a) && is_num_at (level_at b)) ≡ false → chosen_at a b v ≡ v
chosen_same (Value-F.Num x) (Value-F.Num y) v n = absurd cc
chosen_same (Value-F.Num x) _ v n = refl
chosen_same _ b v n = refl

-- the sum and the product of an array
pub typed-folded : (f : ℤ → ℤ → ℤ) (n : ℤ) (a : Value-F Value) (t : Ty) → IsLayer a → is_nums_at (level_at a) ≡ true → item_at (level_at a) ≡ Some t → type_of (folded_at f n a) ≡ t
typed-folded f n (Value-F.Nums xs) t p is e = type-Num _ ∙ known (ty.Num xs.rep) t e
typed-folded f n (Value-F.Arr xs) t p is e = let no = p.no_number in absurd cc
typed-folded f n _ t p is e = absurd cc
