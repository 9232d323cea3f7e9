-- Comparisons, and the choice between two values.
use Rattle.std.specs.Prelude.{ℤ, pos, Bool, true, false, not, ◌&&◌, List, [], ◌∷◌, cond, int_lt, nat_eq}
use Rattle.std.specs.List.{list_all, list_any}
use Rattle.std.specs.Ordering.{is_lt, nat_cmp, int_eq}
use Rattle.std.specs.Cmp.Lexicographic.{slice_cmp, pointwise}
use Rattle.g_types.specs.Rep.{wrap, wider}
use Rattle.g_values.specs.declared.value.Value.{Value, out-Value, fold-Value}
use Rattle.g_values.specs.declared.value.Value.TheOpen.{Value-F}
use Rattle.g_prims_definitions.specs.Arithmetic.{number}
use Rattle.g_prims_definitions.specs.Bits.{truth}

-- Equality of values of one type that hold no reference. A level is compared where each part is a
-- test of the part.
abbrev pub all_same : List (Value → Bool) → List Value → Bool
all_same [] [] = true
all_same (f ∷ fs) (v ∷ vs) = f v && all_same fs vs
all_same _ _ = false

abbrev pub same_level : Value-F (Value → Bool) → Value-F Value → Bool
same_level (Value-F.Num x) (Value-F.Num y) = int_eq x.n y.n
same_level (Value-F.Bool a) (Value-F.Bool b) = cond a b (not b)
same_level (Value-F.Str s) (Value-F.Str t) = pointwise nat_eq s t
same_level (Value-F.Nums xs) (Value-F.Nums ys) = pointwise int_eq xs.all ys.all
same_level (Value-F.Arr fs) (Value-F.Arr vs) = all_same fs.items vs.items
same_level (Value-F.Cluster fs) (Value-F.Cluster vs) = all_same fs vs
same_level _ _ = false

abbrev pub same_step : Value-F (Value → Bool) → Value → Bool
same_step f v = same_level f (out-Value v)

abbrev pub same : Value → Value → Bool
same = fold-Value (Value → Bool) same_step

-- two numbers in the wider representation, else two values of one type
abbrev pub equal_at : Value-F Value → Value-F Value → Value → Value → Bool
equal_at (Value-F.Num x) (Value-F.Num y) v w = let r = wider x.rep y.rep in int_eq (wrap r x.n) (wrap r y.n)
equal_at _ _ v w = same v w

abbrev pub equal : Value → Value → Bool
equal v w = equal_at (out-Value v) (out-Value w) v w

-- two numbers in the wider representation, or two strings by their bytes
abbrev pub less_at : Value-F Value → Value-F Value → Bool
less_at (Value-F.Num x) (Value-F.Num y) = let r = wider x.rep y.rep in int_lt (wrap r x.n) (wrap r y.n)
less_at (Value-F.Str s) (Value-F.Str t) = is_lt (slice_cmp nat_cmp s t)
less_at _ _ = false

abbrev pub less : Value → Value → Bool
less v w = less_at (out-Value v) (out-Value w)

-- one of two: a number in the wider representation of both
abbrev pub chosen_at : Value-F Value → Value-F Value → Value → Value
chosen_at (Value-F.Num x) (Value-F.Num y) v = number (wider x.rep y.rep) x.n
chosen_at _ _ v = v

abbrev pub chosen : Value → Value → Value
chosen v other = chosen_at (out-Value v) (out-Value other) v

abbrev pub select : Value → Value → Value → Value
select s t f = cond (truth s) (chosen t f) (chosen f t)

abbrev pub truth_number : Bool → ℤ
truth_number true = pos 1
truth_number false = pos 0

-- whether all, and whether some, elements are TRUE
abbrev pub all_at : Value-F Value → Bool
all_at (Value-F.Arr xs) = list_all truth xs.items
all_at _ = false

abbrev pub any_at : Value-F Value → Bool
any_at (Value-F.Arr xs) = list_any truth xs.items
any_at _ = false

abbrev pub all_true : Value → Bool
all_true a = all_at (out-Value a)

abbrev pub any_true : Value → Bool
any_true a = any_at (out-Value a)
