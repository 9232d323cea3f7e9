-- Each row goes on to outputs from each place where it goes on at all.
use Rattle.std.proofs.Common.{◌≡◌, ◌≤◌, ◌<◌, ℕ, zero, suc, ◌+◌, Bool, true, false, not, cond, ◌&&◌, ◌||◌, ◌↔◌, List, [], ◌∷◌, ◌++◌, length, take, Option, None, Some, refl, ap, sym, ◌∙◌, subst, arith}
use Rattle.std.specs.Prelude.{replicate, slice_get, nat_le}
use Rattle.g_types.specs.declared.rep.Rep.{Rep}
use Rattle.g_types.specs.declared.rep.Rep.TheVariants.{I32, U8}
use Rattle.g_types.specs.declared.ty.Ty.{Ty, out-Ty}
use Rattle.g_types.specs.declared.ty.Ty.TheOpen.{Ty-F}
use Rattle.g_types.specs.declared.ty.Ty.TheVariants as ty
use Rattle.g_types.specs.Rep.{wider}
use Rattle.g_types.specs.Same.{same_type}
use Rattle.g_types.specs.Ty.{depth, is_num, is_num_at, is_nums, is_nums_at}
use Rattle.g_types.proofs.Depths.{depth-Num}
use Rattle.g_values.specs.Spelled.{is_array, is_array_at}
use Rattle.g_values.specs.declared.primitive.Primitive.{Primitive}
use Rattle.g_values.specs.declared.primitive.Primitive.TheVariants as op
use Rattle.g_prims_definitions.specs.Kinds.{is_bool, is_bool_at, is_str, is_str_at, is_bools, is_bools_at, is_numeric, has_bits, wide, wide_at, array_of, item, item_at, elementwise, elementwise_at, parts, parts_at, part, part_of, has_reference, is_assignable_to}
use Rattle.g_prims_definitions.specs.Row.{Row, read, place, ends, given, one, two, three}
use Rattle.g_prims_definitions.specs.Rows.{row, row_of, first_refused, when, single, twice, converted, is_known, is_equal_kind, is_ordered, is_ordered_kind, selected, is_shallow, is_element, is_sortable, is_searchable, is_bytes, is_bytes_at, is_byte_at}
use Rattle.g_prims_definitions.proofs.Beginnings.{BeginsRow, Goes}
use Rattle.g_prims_definitions.proofs.Folds.{reference-Num, reference-Arr}
use Rattle.g_prims_definitions.proofs.Sames.{same_itself}

-- rows of one, two and three inputs

ends_read : (o : Option (List Ty)) (us : List Ty) → o ≡ Some us → read (ends o) [] ≡ Some us
ends_read None us e = absurd cc
ends_read (Some outs) us e = e

ends_goes : (o : Option (List Ty)) → Goes (ends o)
ends_goes None = tt
ends_goes (Some outs) = (record { further = []; outs = outs; row = refl }, λ t. tt)

given_read : (b : Bool) (r : Row) (ts : List Ty) → b ≡ true → read (given b r) ts ≡ read r ts
given_read true r ts e = refl
given_read false r ts e = absurd cc

given_goes : (b : Bool) (r : Row) → (b ≡ true → Goes r) → Goes (given b r)
given_goes true r h = h refl
given_goes false r h = tt

abbrev Finds : (Ty → Option (List Ty)) → Type 0
Finds f = (y : Ty) × (us : List Ty) × (f y ≡ Some us)

one_goes : (outs : Ty → Option (List Ty)) → Finds outs → Goes (one outs)
one_goes outs f = (record { further = f.0 ∷ []; outs = f.1; row = ends_read (outs f.0) f.1 f.2 }, λ t. ends_goes (outs t))

two_goes : (first : Ty → Bool) (outs : Ty → Ty → Option (List Ty)) (x : Ty) → first x ≡ true → ((t : Ty) → first t ≡ true → Finds (outs t)) → Goes (two first outs)
two_goes first outs x e h =
    let f = h x e in (
      record { further = x ∷ f.0 ∷ []; outs = f.1; row = given_read (first x) (one (outs x)) (f.0 ∷ []) e ∙ ends_read (outs x f.0) f.1 f.2 },
      λ t. given_goes (first t) (one (outs t)) (λ is. one_goes (outs t) (h t is)),
    )

record Middle (second : Ty → Bool) (outs : Ty → Ty → Option (List Ty)) : Type 0 where
  some : Ty
  allowed : second some ≡ true
  finds : (t : Ty) → second t ≡ true → Finds (outs t)

three_goes : (first : Ty → Bool) (second : Ty → Ty → Bool) (outs : Ty → Ty → Ty → Option (List Ty)) (x : Ty) → first x ≡ true → ((t : Ty) → first t ≡ true → Middle (second t) (outs t)) → Goes (three first second outs)
three_goes first second outs x e h =
    let m = h x e in
    let f = m.finds m.some m.allowed in (
      record {
        further = x ∷ m.some ∷ f.0 ∷ [];
        outs = f.1;
        row = given_read (first x) (two (second x) (outs x)) (m.some ∷ f.0 ∷ []) e
            ∙ given_read (second x m.some) (one (outs x m.some)) (f.0 ∷ []) m.allowed
            ∙ ends_read (outs x m.some f.0) f.1 f.2;
      },
      λ t. given_goes (first t) (two (second t) (outs t)) (λ is. let n = h t is in two_goes (second t) (outs t) n.some n.allowed n.finds),
    )

-- tests of types

abbrev i32 : Ty
i32 = ty.Num I32

num_is : (r : Rep) → is_num (ty.Num r) ≡ true
num_is r = ap is_num_at (ty.outs-Num r)

nums_is : (r : Rep) → is_nums (ty.Arr (ty.Num r)) ≡ true
nums_is r = ap is_nums_at (ty.outs-Arr (ty.Num r)) ∙ num_is r

array_is : (t : Ty) → is_array (ty.Arr t) ≡ true
array_is t = ap is_array_at (ty.outs-Arr t)

bool_is : is_bool ty.Bool ≡ true
bool_is = ap is_bool_at ty.outs-Bool

bools_is : is_bools (ty.Arr ty.Bool) ≡ true
bools_is = ap is_bools_at (ty.outs-Arr ty.Bool) ∙ bool_is

str_is : is_str ty.Str ≡ true
str_is = ap is_str_at ty.outs-Str

bytes_is : is_bytes (ty.Arr (ty.Num U8)) ≡ true
bytes_is = ap is_bytes_at (ty.outs-Arr (ty.Num U8)) ∙ ap is_byte_at (ty.outs-Num U8)

left_or : (a b : Bool) → a ≡ true → (a || b) ≡ true
left_or true b e = refl
left_or false b e = absurd cc

right_or : (a b : Bool) → b ≡ true → (a || b) ≡ true
right_or true b e = refl
right_or false b e = e

both : (a b : Bool) → a ≡ true → b ≡ true → (a && b) ≡ true
both true b e f = f
both false b e f = e

first_of : (a b : Bool) → (a && b) ≡ true → a ≡ true
first_of true b e = refl
first_of false b e = absurd cc

shallow_is : is_shallow i32 ≡ true
shallow_is = ap (λ d. nat_le d 7) (depth-Num I32)

no_array : (r : Rep) → is_array (ty.Num r) ≡ false
no_array r = ap is_array_at (ty.outs-Num r)

numeric_is : is_numeric i32 ≡ true
numeric_is = left_or (is_num i32) (is_nums i32) (num_is I32)

bits_is : has_bits i32 ≡ true
bits_is = left_or (is_numeric i32) (is_bool i32 || is_bools i32) numeric_is

-- what goes with itself

wide_itself : (m : Ty-F Ty) → (is_num_at m || is_bool_at m) ≡ true → (z : Ty) × (wide_at m m ≡ Some z)
wide_itself (Ty-F.Num r) h = (ty.Num (wider r r), refl)
wide_itself Ty-F.Bool h = (ty.Bool, refl)
wide_itself Ty-F.Str h = absurd cc
wide_itself (Ty-F.Arr t) h = absurd cc
wide_itself (Ty-F.Cluster ts) h = absurd cc
wide_itself (Ty-F.QueueRef t) h = absurd cc
wide_itself (Ty-F.ValueRef t) h = absurd cc

elements_itself : (x : Ty) (m : Ty-F Ty) → out-Ty x ≡ m → ((is_num_at m || is_nums_at m) || (is_bool_at m || is_bools_at m)) ≡ true → (z : Ty) × (elementwise x x ≡ Some z)
elements_itself x (Ty-F.Num r) e h = (ty.Num (wider r r), ap (λ l. elementwise_at (item_at l) (item_at l) x x) e ∙ ap (λ l. wide_at l l) e)
elements_itself x Ty-F.Bool e h = (ty.Bool, ap (λ l. elementwise_at (item_at l) (item_at l) x x) e ∙ ap (λ l. wide_at l l) e)
elements_itself x (Ty-F.Arr t) e h =
    let w = wide_itself (out-Ty t) h in
    (ty.Arr w.0, ap (λ l. elementwise_at (item_at l) (item_at l) x x) e ∙ ap array_of w.1)
elements_itself x Ty-F.Str e h = absurd cc
elements_itself x (Ty-F.Cluster ts) e h = absurd cc
elements_itself x (Ty-F.QueueRef t) e h = absurd cc
elements_itself x (Ty-F.ValueRef t) e h = absurd cc

bits_itself : (x : Ty) → has_bits x ≡ true → Finds (λ y. single (elementwise x y))
bits_itself x h = let z = elements_itself x (out-Ty x) refl h in (x, z.0 ∷ [], ap single z.1)

numbers_itself : (x : Ty) → is_numeric x ≡ true → Finds (λ y. single (elementwise x y))
numbers_itself x h = bits_itself x (left_or (is_numeric x) (is_bool x || is_bools x) h)

pair_itself : (x : Ty) → is_num x ≡ true → Finds (λ y. twice (wide x y))
pair_itself x h = let z = wide_itself (out-Ty x) (left_or (is_num x) (is_bool x) h) in (x, z.0 ∷ z.0 ∷ [], ap twice z.1)

when_is : (test : Ty → Bool) (outs : Ty → List Ty) (x : Ty) → test x ≡ true → Finds (λ y. when (test y) (outs y))
when_is test outs x e = (x, outs x, ap (λ b. when b (outs x)) e)

equal_itself : (x : Ty) → Finds (λ y. when (is_equal_kind x y) (ty.Bool ∷ []))
equal_itself x = when_is (is_equal_kind x) (λ y. ty.Bool ∷ []) x (right_or (is_num x && is_num x) (same_type x x) (same_itself x))

ordered_both : (a b : Bool) → (a || b) ≡ true → ((a && a) || (b && b)) ≡ true
ordered_both true b e = refl
ordered_both false true e = refl
ordered_both false false e = e

ordered_itself : (x : Ty) → is_ordered x ≡ true → Finds (λ y. when (is_ordered_kind x y) (ty.Bool ∷ []))
ordered_itself x h = when_is (is_ordered_kind x) (λ y. ty.Bool ∷ []) x (ordered_both (is_num x) (is_str x) h)

abbrev selected_at : Ty → Ty-F Ty → Option (List Ty)
selected_at t l = cond (is_num_at l && is_num_at l) (single (wide_at l l)) (when (same_type t t) (t ∷ []))

selects : (t : Ty) (m : Ty-F Ty) → (us : List Ty) × (selected_at t m ≡ Some us)
selects t (Ty-F.Num r) = (ty.Num (wider r r) ∷ [], refl)
selects t Ty-F.Bool = (t ∷ [], ap (λ b. when b (t ∷ [])) (same_itself t))
selects t Ty-F.Str = (t ∷ [], ap (λ b. when b (t ∷ [])) (same_itself t))
selects t (Ty-F.Arr u) = (t ∷ [], ap (λ b. when b (t ∷ [])) (same_itself t))
selects t (Ty-F.Cluster us) = (t ∷ [], ap (λ b. when b (t ∷ [])) (same_itself t))
selects t (Ty-F.QueueRef u) = (t ∷ [], ap (λ b. when b (t ∷ [])) (same_itself t))
selects t (Ty-F.ValueRef u) = (t ∷ [], ap (λ b. when b (t ∷ [])) (same_itself t))

selected_itself : (t : Ty) → Finds (λ f. selected t f)
selected_itself t = let s = selects t (out-Ty t) in (t, s.0, s.1)

-- arrays and clusters

has_item : (m : Ty-F Ty) → is_array_at m ≡ true → (t : Ty) × (item_at m ≡ Some t)
has_item (Ty-F.Arr t) h = (t, refl)
has_item (Ty-F.Num r) h = absurd cc
has_item Ty-F.Bool h = absurd cc
has_item Ty-F.Str h = absurd cc
has_item (Ty-F.Cluster ts) h = absurd cc
has_item (Ty-F.QueueRef t) h = absurd cc
has_item (Ty-F.ValueRef t) h = absurd cc

goes_into : (u : Ty) (o : Option Ty) → o ≡ Some u → is_assignable_to u o ≡ true
goes_into u o e = ap (is_assignable_to u) e ∙ left_or (same_type u u) ((is_num u && is_num u) || (is_nums u && is_nums u)) (same_itself u)

element_of : (a : Ty) (outs : List Ty) → is_array a ≡ true → Finds (λ e. when (is_assignable_to e (item a)) outs)
element_of a outs h = let t = has_item (out-Ty a) h in when_is (λ e. is_assignable_to e (item a)) (λ e. outs) t.0 (goes_into t.0 (item a) t.1)

is_index : (outs : List Ty) → Finds (λ n. when (is_num n) outs)
is_index outs = when_is is_num (λ n. outs) i32 (num_is I32)

indexed : (a : Ty) → is_array a ≡ true → Finds (λ i. cond (is_num i) (single (item a)) None)
indexed a h =
    let t = has_item (out-Ty a) h in
    (i32, t.0 ∷ [], ap (λ b. cond b (single (item a)) None) (num_is I32) ∙ ap single t.1)

after_index : (outs : Ty → Ty → Option (List Ty)) → ((t : Ty) → is_num t ≡ true → Finds (outs t)) → Middle is_num outs
after_index outs h = record { some = i32; allowed = num_is I32; finds = h }

known_part : (o : Option Ty) → is_known o ≡ true → (t : Ty) × (o ≡ Some t)
known_part None h = absurd cc
known_part (Some t) h = (t, refl)

long_enough : (k : ℕ) → slice_get (replicate (suc k) i32) k ≡ Some i32
long_enough zero = refl
long_enough (suc k) = long_enough k

abbrev cluster : ℕ → Ty
cluster k = ty.Cluster (replicate (suc k) i32)

part_is : (k : ℕ) → part k (cluster k) ≡ Some i32
part_is k = ap (λ l. part_of k (parts_at l)) (ty.outs-Cluster (replicate (suc k) i32)) ∙ long_enough k

element_is : is_element i32 ≡ true
element_is = both (not (is_array i32)) (is_shallow i32) (ap not (no_array I32)) shallow_is

sortable_is : is_sortable (ty.Arr i32) ≡ true
sortable_is = left_or (is_nums (ty.Arr i32)) _ (nums_is I32)

searchable_is : is_searchable (ty.Arr i32) ≡ true
searchable_is = both (is_array (ty.Arr i32)) (not (has_reference (ty.Arr i32))) (array_is i32) (ap not (reference-Arr i32 ∙ reference-Num I32))

plain_is : not (has_reference i32) ≡ true
plain_is = ap not (reference-Num I32)

sums : Finds (λ a. cond (is_nums a) (single (item a)) None)
sums = (ty.Arr i32, i32 ∷ [], ap (λ b. cond b (single (item (ty.Arr i32))) None) (nums_is I32) ∙ ap (λ l. single (item_at l)) (ty.outs-Arr i32))

converts : (r : Rep) → Finds (converted r)
converts r = (i32, ty.Num r ∷ [], ap (λ b. cond b (Some (ty.Num r ∷ [])) (when (is_nums i32) (ty.Arr (ty.Num r) ∷ []))) (num_is I32))

unbundles : Finds parts
unbundles = (cluster 0, i32 ∷ [], ap parts_at (ty.outs-Cluster (i32 ∷ [])))

gets : (k : ℕ) → Finds (λ c. single (part k c))
gets k = (cluster k, i32 ∷ [], ap single (part_is k))

-- each operation

pub goes : (p : Primitive) → Goes (row p)
goes op.Add = two_goes is_numeric (λ x y. single (elementwise x y)) i32 numeric_is numbers_itself
goes op.Sub = two_goes is_numeric (λ x y. single (elementwise x y)) i32 numeric_is numbers_itself
goes op.Mul = two_goes is_numeric (λ x y. single (elementwise x y)) i32 numeric_is numbers_itself
goes op.Inc = one_goes _ (when_is is_numeric (λ x. x ∷ []) i32 numeric_is)
goes op.Dec = one_goes _ (when_is is_numeric (λ x. x ∷ []) i32 numeric_is)
goes op.Neg = one_goes _ (when_is is_numeric (λ x. x ∷ []) i32 numeric_is)
goes op.Abs = one_goes _ (when_is is_numeric (λ x. x ∷ []) i32 numeric_is)
goes op.QuotRem = two_goes is_num (λ x y. twice (wide x y)) i32 (num_is I32) pair_itself
goes op.MaxMin = two_goes is_num (λ x y. twice (wide x y)) i32 (num_is I32) pair_itself
goes op.And = two_goes has_bits (λ x y. single (elementwise x y)) i32 bits_is bits_itself
goes op.Or = two_goes has_bits (λ x y. single (elementwise x y)) i32 bits_is bits_itself
goes op.Xor = two_goes has_bits (λ x y. single (elementwise x y)) i32 bits_is bits_itself
goes op.Not = one_goes _ (when_is has_bits (λ x. x ∷ []) i32 bits_is)
goes op.Shift = two_goes is_num (λ x n. when (is_num n) (x ∷ [])) i32 (num_is I32) (λ x h. is_index (x ∷ []))
goes op.ToI8 = one_goes _ (converts _)
goes op.ToI16 = one_goes _ (converts _)
goes op.ToI32 = one_goes _ (converts _)
goes op.ToI64 = one_goes _ (converts _)
goes op.ToU8 = one_goes _ (converts _)
goes op.ToU16 = one_goes _ (converts _)
goes op.ToU32 = one_goes _ (converts _)
goes op.ToU64 = one_goes _ (converts _)
goes op.BoolInt = one_goes _ (when_is is_bool (λ b. _) ty.Bool bool_is)
goes op.Eq = two_goes (λ x. not (has_reference x)) (λ x y. when (is_equal_kind x y) (ty.Bool ∷ [])) i32 plain_is (λ x h. equal_itself x)
goes op.Ne = two_goes (λ x. not (has_reference x)) (λ x y. when (is_equal_kind x y) (ty.Bool ∷ [])) i32 plain_is (λ x h. equal_itself x)
goes op.Lt = two_goes is_ordered (λ x y. when (is_ordered_kind x y) (ty.Bool ∷ [])) i32 (left_or _ _ (num_is I32)) ordered_itself
goes op.Le = two_goes is_ordered (λ x y. when (is_ordered_kind x y) (ty.Bool ∷ [])) i32 (left_or _ _ (num_is I32)) ordered_itself
goes op.Gt = two_goes is_ordered (λ x y. when (is_ordered_kind x y) (ty.Bool ∷ [])) i32 (left_or _ _ (num_is I32)) ordered_itself
goes op.Ge = two_goes is_ordered (λ x y. when (is_ordered_kind x y) (ty.Bool ∷ [])) i32 (left_or _ _ (num_is I32)) ordered_itself
goes op.Select =
    three_goes is_bool (λ s t. true) (λ s t f. selected t f) ty.Bool bool_is (λ s h. record { some = i32; allowed = refl; finds = λ t g. selected_itself t })
goes op.All = one_goes _ (when_is is_bools (λ a. _) (ty.Arr ty.Bool) bools_is)
goes op.Any = one_goes _ (when_is is_bools (λ a. _) (ty.Arr ty.Bool) bools_is)
goes op.ArraySize = one_goes _ (when_is is_array (λ a. _) (ty.Arr i32) (array_is i32))
goes op.IndexArray = two_goes is_array (λ a i. cond (is_num i) (single (item a)) None) (ty.Arr i32) (array_is i32) indexed
goes op.Replace =
    three_goes is_array (λ a i. is_num i) (λ a i e. when (is_assignable_to e (item a)) (a ∷ [])) (ty.Arr i32) (array_is i32)
    (λ a h. after_index (λ i e. when (is_assignable_to e (item a)) (a ∷ [])) (λ i g. element_of a (a ∷ []) h))
goes op.Build = two_goes is_array (λ a e. when (is_assignable_to e (item a)) (a ∷ [])) (ty.Arr i32) (array_is i32) (λ a h. element_of a (a ∷ []) h)
goes op.Concat = two_goes is_array (λ a b. when (same_type a b) (a ∷ [])) (ty.Arr i32) (array_is i32) (λ a h. when_is (same_type a) (λ b. a ∷ []) a (same_itself a))
goes op.Initialize = two_goes is_element (λ e n. when (is_num n) (ty.Arr e ∷ [])) i32 element_is (λ e h. is_index (ty.Arr e ∷ []))
goes op.Subset =
    three_goes is_array (λ a i. is_num i) (λ a i n. when (is_num n) (a ∷ [])) (ty.Arr i32) (array_is i32) (λ a h. after_index (λ i n. when (is_num n) (a ∷ [])) (λ i g. is_index (a ∷ [])))
goes op.Delete =
    three_goes is_array (λ a i. is_num i) (λ a i n. when (is_num n) (a ∷ a ∷ [])) (ty.Arr i32) (array_is i32) (λ a h. after_index (λ i n. when (is_num n) (a ∷ a ∷ [])) (λ i g. is_index (a ∷ a ∷ [])))
goes op.Reverse = one_goes _ (when_is is_array (λ a. a ∷ []) (ty.Arr i32) (array_is i32))
goes op.Sort = one_goes _ (when_is is_sortable (λ a. a ∷ []) (ty.Arr i32) sortable_is)
goes op.Sum = one_goes _ sums
goes op.Product = one_goes _ sums
goes op.Search = two_goes is_searchable (λ a e. when (is_assignable_to e (item a)) _) (ty.Arr i32) searchable_is (λ a h. element_of a _ (first_of (is_array a) (not (has_reference a)) h))
goes op.StrLen = one_goes _ (when_is is_str (λ s. _) ty.Str str_is)
goes op.StrConcat = two_goes is_str (λ s t. when (is_str t) (ty.Str ∷ [])) ty.Str str_is (λ s h. when_is is_str (λ t. ty.Str ∷ []) ty.Str str_is)
goes op.StrSubset =
    three_goes is_str (λ s i. is_num i) (λ s i n. when (is_num n) (ty.Str ∷ [])) ty.Str str_is (λ s h. after_index (λ i n. when (is_num n) (ty.Str ∷ [])) (λ i g. is_index (ty.Str ∷ [])))
goes op.StrBytes = one_goes _ (when_is is_str (λ s. _) ty.Str str_is)
goes op.BytesStr = one_goes _ (when_is is_bytes (λ a. ty.Str ∷ []) (ty.Arr (ty.Num U8)) bytes_is)
goes op.NumStr = one_goes _ (when_is is_num (λ x. ty.Str ∷ []) i32 (num_is I32))
goes op.StrNum = one_goes _ (when_is is_str (λ s. _) ty.Str str_is)
goes op.Bundle = (omega arith, i32, shallow_is)
goes op.Unbundle = one_goes parts unbundles
goes (op.Get k) = one_goes _ (gets k)
goes (op.Set k) =
    two_goes (λ c. is_known (part k c)) (λ c e. when (is_assignable_to e (part k c)) (c ∷ [])) (cluster k) (ap is_known (part_is k))
    (λ c h. let u = known_part (part k c) h in when_is (λ e. is_assignable_to e (part k c)) (λ e. c ∷ []) u.0 (goes_into u.0 (part k c) u.1))
