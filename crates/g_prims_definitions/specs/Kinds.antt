-- Kinds of types, as operations tell them apart.
use Rattle.std.specs.Prelude.{ℕ, Bool, true, false, List, ◌&&◌, ◌||◌, Option, Some, None, slice_get}
use Rattle.std.specs.List.{list_any}
use Rattle.g_types.specs.declared.ty.Ty.{Ty, out-Ty, fold-Ty}
use Rattle.g_types.specs.declared.ty.Ty.TheVariants as ty
use Rattle.g_types.specs.declared.ty.Ty.TheOpen.{Ty-F}
use Rattle.g_types.specs.Rep.{wider}
use Rattle.g_types.specs.Same.{same_type}
use Rattle.g_types.specs.Ty.{is_num, is_nums}

abbrev pub is_bool_at : Ty-F Ty → Bool
is_bool_at Ty-F.Bool = true
is_bool_at _ = false

abbrev pub is_bool : Ty → Bool
is_bool t = is_bool_at (out-Ty t)

abbrev pub is_str_at : Ty-F Ty → Bool
is_str_at Ty-F.Str = true
is_str_at _ = false

abbrev pub is_str : Ty → Bool
is_str t = is_str_at (out-Ty t)

abbrev pub is_bools_at : Ty-F Ty → Bool
is_bools_at (Ty-F.Arr t) = is_bool t
is_bools_at _ = false

-- an array of Booleans
abbrev pub is_bools : Ty → Bool
is_bools t = is_bools_at (out-Ty t)

abbrev pub is_strs_at : Ty-F Ty → Bool
is_strs_at (Ty-F.Arr t) = is_str t
is_strs_at _ = false

-- an array of strings
abbrev pub is_strs : Ty → Bool
is_strs t = is_strs_at (out-Ty t)

-- the type of an array's elements
abbrev pub item_at : Ty-F Ty → Option Ty
item_at (Ty-F.Arr t) = Some t
item_at _ = None

abbrev pub item : Ty → Option Ty
item t = item_at (out-Ty t)

-- the types of a cluster's elements
abbrev pub parts_at : Ty-F Ty → Option (List Ty)
parts_at (Ty-F.Cluster ts) = Some ts
parts_at _ = None

abbrev pub parts : Ty → Option (List Ty)
parts t = parts_at (out-Ty t)

abbrev pub part_of : ℕ → Option (List Ty) → Option Ty
part_of k None = None
part_of k (Some ts) = slice_get ts k

-- the type of element k of a cluster, from 0
abbrev pub part : ℕ → Ty → Option Ty
part k t = part_of k (parts t)

-- whether it is or holds a reference
abbrev pub reference_step : Ty-F Bool → Bool
reference_step (Ty-F.Num r) = false
reference_step Ty-F.Bool = false
reference_step Ty-F.Str = false
reference_step (Ty-F.Arr b) = b
reference_step (Ty-F.Cluster bs) = list_any (λ b. b) bs
reference_step (Ty-F.QueueRef b) = true
reference_step (Ty-F.ValueRef b) = true

abbrev pub has_reference : Ty → Bool
has_reference = fold-Ty Bool reference_step

-- a number, or an array of numbers
abbrev pub is_numeric : Ty → Bool
is_numeric t = is_num t || is_nums t

-- a number, a Boolean, or an array of them
abbrev pub has_bits : Ty → Bool
has_bits t = is_numeric t || (is_bool t || is_bools t)

-- equal, both numbers, or both arrays of numbers
abbrev pub is_assignable : Ty → Ty → Bool
is_assignable a b = same_type a b || ((is_num a && is_num b) || (is_nums a && is_nums b))

abbrev pub is_assignable_to : Ty → Option Ty → Bool
is_assignable_to t None = false
is_assignable_to t (Some u) = is_assignable t u

-- the wider of two number types, or two Booleans
abbrev pub wide_at : Ty-F Ty → Ty-F Ty → Option Ty
wide_at (Ty-F.Num r) (Ty-F.Num s) = Some (ty.Num (wider r s))
wide_at Ty-F.Bool Ty-F.Bool = Some ty.Bool
wide_at _ _ = None

abbrev pub wide : Ty → Ty → Option Ty
wide x y = wide_at (out-Ty x) (out-Ty y)

abbrev pub array_of : Option Ty → Option Ty
array_of None = None
array_of (Some t) = Some (ty.Arr t)

-- the same of arrays element by element, or of an array and what goes with each element
abbrev pub elementwise_at : Option Ty → Option Ty → Ty → Ty → Option Ty
elementwise_at None None x y = wide x y
elementwise_at (Some a) None x y = array_of (wide a y)
elementwise_at None (Some b) x y = array_of (wide x b)
elementwise_at (Some a) (Some b) x y = array_of (wide a b)

abbrev pub elementwise : Ty → Ty → Option Ty
elementwise x y = elementwise_at (item x) (item y) x y
