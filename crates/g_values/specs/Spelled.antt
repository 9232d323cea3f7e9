-- Types that a listing can write.
use Rattle.std.specs.Prelude.{Bool, true, false, List, ◌≡◌, ◌≤◌, length}
use Rattle.g_types.specs.declared.ty.Ty.{Ty, out-Ty, every-Ty}
use Rattle.g_types.specs.declared.ty.Ty.TheOpen.{Ty-F}
use Rattle.g_types.specs.Ty.{depth}

abbrev pub is_array_at : Ty-F Ty → Bool
is_array_at (Ty-F.Arr t) = true
is_array_at _ = false

abbrev pub is_array : Ty → Bool
is_array t = is_array_at (out-Ty t)

-- one level: an array's element is no array, and a cluster has 1 to 64 elements
pub record IsClusterType (ts : List Ty) : Type 0 where
  pub some : 1 ≤ length ts
  pub few : length ts ≤ 64

abbrev pub IsTypeLayer : Ty-F Ty → Type 0
IsTypeLayer (Ty-F.Num r) = Unit {0}
IsTypeLayer Ty-F.Bool = Unit {0}
IsTypeLayer Ty-F.Str = Unit {0}
IsTypeLayer (Ty-F.Arr t) = is_array t ≡ false
IsTypeLayer (Ty-F.Cluster ts) = IsClusterType ts
IsTypeLayer (Ty-F.QueueRef t) = Unit {0}
IsTypeLayer (Ty-F.ValueRef t) = Unit {0}

abbrev pub IsWholeType : Ty → Type 0
IsWholeType = every-Ty IsTypeLayer

pub record IsSpelled (t : Ty) : Type 0 where
  pub whole : IsWholeType t
  pub shallow : depth t ≤ 8
