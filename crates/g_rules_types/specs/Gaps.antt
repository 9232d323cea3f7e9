-- Inner: numbers that lie in none of some intervals.
use Rattle.std.specs.Prelude.{ℤ, ◌≡◌, Bool, true, false, ◌&&◌, List, int_le, int_lt}
use Rattle.std.specs.List.{list_any}
use Rattle.std.specs.declared.cmp.Ordering.{Ordering}
use Rattle.std.specs.Ordering.{ordering_then, int_cmp}
use Rattle.g_rules_types.specs.declared.gaps.Interval.{Interval}

-- whether a number lies in an interval
abbrev pub has : ℤ → Interval → Bool
has n i = int_le i.low n && int_le n i.high

-- from a bound on, and below another
abbrev pub within : (low past n : ℤ) → Bool
within low past n = int_le low n && int_lt n past

pub record Gap (low past : ℤ) (is : List Interval) : Type 0 where
  pub number : ℤ
  pub within : within low past number ≡ true
  pub none : list_any (has number) is ≡ false

-- whether there is such a number
abbrev pub TellsGap : (low past : ℤ) → List Interval → Bool → Type 0
TellsGap low past is true = Gap low past is
TellsGap low past is false = (n : ℤ) → within low past n ≡ true → list_any (has n) is ≡ true

-- intervals by their ends
abbrev pub interval_cmp : Interval → Interval → Ordering
interval_cmp a b = ordering_then (int_cmp a.low b.low) (int_cmp a.high b.high)

-- The bound below which numbers are known to lie in intervals, after one more up to high that begins at or below it. Nothing is said of
-- numbers from past on.
pub record Advances (next past high : ℤ) (result : ℤ) : Type 0 where
  pub known : (n : ℤ) → int_le next n && int_lt n result ≡ true → int_le n high ≡ true
  pub behind : (n : ℤ) → int_le result n && int_lt n past ≡ true → int_le n high ≡ false
  pub on : (n : ℤ) → int_le result n && int_lt n past ≡ true → int_le next n ≡ true
