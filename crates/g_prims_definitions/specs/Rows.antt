-- The types that each operation takes and gives, for types that the language can spell.
use Rattle.std.specs.Prelude.{ℕ, Bool, true, false, not, List, [], ◌∷◌, ◌&&◌, ◌||◌, Option, Some, None, cond, nat_le}
use Rattle.g_types.specs.declared.rep.Rep.{Rep}
use Rattle.g_types.specs.declared.rep.Rep.TheVariants.{I8, I16, I32, I64, U8, U16, U32, U64}
use Rattle.g_types.specs.declared.ty.Ty.{Ty, out-Ty}
use Rattle.g_types.specs.declared.ty.Ty.TheOpen.{Ty-F}
use Rattle.g_types.specs.declared.ty.Ty.TheVariants as ty
use Rattle.g_types.specs.Same.{same_type}
use Rattle.g_types.specs.Ty.{depth, is_num, is_nums}
use Rattle.g_values.specs.Spelled.{is_array}
use Rattle.g_values.specs.declared.primitive.Primitive.{Primitive}
use Rattle.g_values.specs.declared.primitive.Primitive.TheVariants as op
use Rattle.g_prims_definitions.specs.Row.{Row, Repeats, read, place, one, two, three}
use Rattle.g_prims_definitions.specs.Kinds.{is_bool, is_str, is_bools, is_strs, item, parts, part, has_reference, is_numeric, has_bits, is_assignable_to, wide, elementwise}

abbrev pub when : Bool → List Ty → Option (List Ty)
when true outs = Some outs
when false outs = None

abbrev pub single : Option Ty → Option (List Ty)
single None = None
single (Some t) = Some (t ∷ [])

abbrev pub twice : Option Ty → Option (List Ty)
twice None = None
twice (Some t) = Some (t ∷ t ∷ [])

abbrev pub is_known : Option Ty → Bool
is_known None = false
is_known (Some t) = true

-- a number or an array of numbers of another representation
abbrev pub converted : Rep → Ty → Option (List Ty)
converted r x = cond (is_num x) (Some (ty.Num r ∷ [])) (when (is_nums x) (ty.Arr (ty.Num r) ∷ []))

abbrev pub conversion : Rep → Row
conversion r = one (converted r)

-- two numbers, or equal types
abbrev pub is_equal_kind : Ty → Ty → Bool
is_equal_kind x y = (is_num x && is_num y) || same_type x y

abbrev pub is_ordered : Ty → Bool
is_ordered x = is_num x || is_str x

-- two numbers, or two strings
abbrev pub is_ordered_kind : Ty → Ty → Bool
is_ordered_kind x y = (is_num x && is_num y) || (is_str x && is_str y)

-- the wider of two number types, or the type if they are equal
abbrev pub selected : Ty → Ty → Option (List Ty)
selected t f = cond (is_num t && is_num f) (single (wide t f)) (when (same_type t f) (t ∷ []))

-- a type that can stand in an array or a cluster
abbrev pub is_shallow : Ty → Bool
is_shallow t = nat_le (depth t) 7

-- a type that an array's elements may have
abbrev pub is_element : Ty → Bool
is_element t = not (is_array t) && is_shallow t

abbrev pub is_sortable : Ty → Bool
is_sortable a = is_nums a || is_strs a

abbrev pub is_searchable : Ty → Bool
is_searchable a = is_array a && not (has_reference a)

abbrev pub is_byte_at : Ty-F Ty → Bool
is_byte_at (Ty-F.Num U8) = true
is_byte_at _ = false

abbrev pub is_bytes_at : Ty-F Ty → Bool
is_bytes_at (Ty-F.Arr t) = is_byte_at (out-Ty t)
is_bytes_at _ = false

abbrev pub is_bytes : Ty → Bool
is_bytes t = is_bytes_at (out-Ty t)

abbrev pub size : Ty
size = ty.Num I32

abbrev pub bytes : Ty
bytes = ty.Arr (ty.Num U8)

abbrev pub row : Primitive → Row
row op.Add = two is_numeric (λ x y. single (elementwise x y))
row op.Sub = two is_numeric (λ x y. single (elementwise x y))
row op.Mul = two is_numeric (λ x y. single (elementwise x y))
row op.Inc = one (λ x. when (is_numeric x) (x ∷ []))
row op.Dec = one (λ x. when (is_numeric x) (x ∷ []))
row op.Neg = one (λ x. when (is_numeric x) (x ∷ []))
row op.Abs = one (λ x. when (is_numeric x) (x ∷ []))
row op.QuotRem = two is_num (λ x y. twice (wide x y))
row op.MaxMin = two is_num (λ x y. twice (wide x y))
row op.And = two has_bits (λ x y. single (elementwise x y))
row op.Or = two has_bits (λ x y. single (elementwise x y))
row op.Xor = two has_bits (λ x y. single (elementwise x y))
row op.Not = one (λ x. when (has_bits x) (x ∷ []))
row op.Shift = two is_num (λ x n. when (is_num n) (x ∷ []))
row op.ToI8 = conversion I8
row op.ToI16 = conversion I16
row op.ToI32 = conversion I32
row op.ToI64 = conversion I64
row op.ToU8 = conversion U8
row op.ToU16 = conversion U16
row op.ToU32 = conversion U32
row op.ToU64 = conversion U64
row op.BoolInt = one (λ b. when (is_bool b) (ty.Num I16 ∷ []))
row op.Eq = two (λ x. not (has_reference x)) (λ x y. when (is_equal_kind x y) (ty.Bool ∷ []))
row op.Ne = two (λ x. not (has_reference x)) (λ x y. when (is_equal_kind x y) (ty.Bool ∷ []))
row op.Lt = two is_ordered (λ x y. when (is_ordered_kind x y) (ty.Bool ∷ []))
row op.Le = two is_ordered (λ x y. when (is_ordered_kind x y) (ty.Bool ∷ []))
row op.Gt = two is_ordered (λ x y. when (is_ordered_kind x y) (ty.Bool ∷ []))
row op.Ge = two is_ordered (λ x y. when (is_ordered_kind x y) (ty.Bool ∷ []))
row op.Select = three is_bool (λ s t. true) (λ s t f. selected t f)
row op.All = one (λ a. when (is_bools a) (ty.Bool ∷ []))
row op.Any = one (λ a. when (is_bools a) (ty.Bool ∷ []))
row op.ArraySize = one (λ a. when (is_array a) (size ∷ []))
row op.IndexArray = two is_array (λ a i. cond (is_num i) (single (item a)) None)
row op.Replace = three is_array (λ a i. is_num i) (λ a i e. when (is_assignable_to e (item a)) (a ∷ []))
row op.Build = two is_array (λ a e. when (is_assignable_to e (item a)) (a ∷ []))
row op.Concat = two is_array (λ a b. when (same_type a b) (a ∷ []))
row op.Initialize = two is_element (λ e n. when (is_num n) (ty.Arr e ∷ []))
row op.Subset = three is_array (λ a i. is_num i) (λ a i n. when (is_num n) (a ∷ []))
row op.Delete = three is_array (λ a i. is_num i) (λ a i n. when (is_num n) (a ∷ a ∷ []))
row op.Reverse = one (λ a. when (is_array a) (a ∷ []))
row op.Sort = one (λ a. when (is_sortable a) (a ∷ []))
row op.Sum = one (λ a. cond (is_nums a) (single (item a)) None)
row op.Product = one (λ a. cond (is_nums a) (single (item a)) None)
row op.Search = two is_searchable (λ a e. when (is_assignable_to e (item a)) (size ∷ []))
row op.StrLen = one (λ s. when (is_str s) (size ∷ []))
row op.StrConcat = two is_str (λ s t. when (is_str t) (ty.Str ∷ []))
row op.StrSubset = three is_str (λ s i. is_num i) (λ s i n. when (is_num n) (ty.Str ∷ []))
row op.StrBytes = one (λ s. when (is_str s) (bytes ∷ []))
row op.BytesStr = one (λ a. when (is_bytes a) (ty.Str ∷ []))
row op.NumStr = one (λ x. when (is_num x) (ty.Str ∷ []))
row op.StrNum = one (λ s. when (is_str s) (ty.Num I64 ∷ ty.Bool ∷ []))
row op.Bundle = Repeats 64 is_shallow (λ ts. ty.Cluster ts ∷ [])
row op.Unbundle = one parts
row (op.Get k) = one (λ c. single (part k c))
row (op.Set k) = two (λ c. is_known (part k c)) (λ c e. when (is_assignable_to e (part k c)) (c ∷ []))

-- the types that are given, where the types of the inputs have a row
abbrev pub row_of : Primitive → List Ty → Option (List Ty)
row_of p ts = read (row p) ts

-- where they have none, the first input, from 1, with which no row begins
abbrev pub first_refused : Primitive → List Ty → ℕ
first_refused p ts = place 0 (row p) ts
