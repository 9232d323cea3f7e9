-- What is kept of the selectors that were read: intervals of numbers, texts, and whether the others stand.
use Rattle.std.specs.Prelude.{◌≡◌, ◌⊎◌, ℕ, Bool, true, false, ◌||◌, List, ℤ, ◌≤ℤ◌, ◌<ℤ◌, Option, Some, None, IsSome}
use Rattle.std.specs.List.{list_any}
use Rattle.std.specs.Ordering.{int_cmp, nat_cmp}
use Rattle.std.specs.Cmp.Lexicographic.{slice_cmp}
use Rattle.std.specs.BTreeMap.{BTreeMap, get, IsOrdered}
use Rattle.std.specs.BTreeSet.{BTreeSet, contains_by}
use denote.Ref.{Bor}
use Rattle.g_diagram.specs.declared.node.Selector.{Selector}
use Rattle.g_diagram.specs.declared.node.Selector.TheVariants.{Number, Range, Truth, Text, Default}
use Rattle.g_rules_selectors.specs.declared.intervals.Interval.{Interval}
use Rattle.g_rules_selectors.specs.declared.taken.Taken.{Taken}
use Rattle.g_rules_selectors.specs.Clashes.{meet, overlaps}

-- high ends by low ends
abbrev pub Intervals : Type 0
Intervals = BTreeMap ℤ ℤ

-- whether one of them meets the interval from a to b
abbrev pub meets_any : Intervals → (a b : ℤ) → Bool
meets_any m a b = list_any (λ e. meet a b e.0 e.1) m.entries

abbrev pub stands_at : Intervals → (low high : ℤ) → Type 0
stands_at m low high = get int_cmp m low ≡ Some high

-- none of them falls, and each ends before the next begins
pub record AreApart (m : Intervals) : Type 0 where
  pub ordered : IsOrdered int_cmp m
  pub rise : (a b : ℤ) → stands_at m a b → a ≤ℤ b
  pub apart : (a b c d : ℤ) → stands_at m a b → stands_at m c d → a <ℤ c → b <ℤ c

-- the last interval that begins at or below a number
abbrev pub IsLastFrom : Intervals → (at : ℤ) → Option Interval → Type 0
IsLastFrom m at None = (q : ℤ) → q ≤ℤ at → get int_cmp m q ≡ None
IsLastFrom m at (Some i) = stands_at m i.low i.high × (i.low ≤ℤ at) × ((q : ℤ) → q ≤ℤ at → IsSome (get int_cmp m q) → q ≤ℤ i.low)

-- the lesser one of two ends, and the greater one
pub record IsLeast (z x y : ℤ) : Type 0 where
  pub below : z ≤ℤ x
  pub under : z ≤ℤ y
  pub one : (z ≡ x) ⊎ (z ≡ y)

pub record IsGreatest (z x y : ℤ) : Type 0 where
  pub above : x ≤ℤ z
  pub over : y ≤ℤ z
  pub one : (z ≡ x) ⊎ (z ≡ y)

-- an interval that meets i is taken out, and the one over both is given; or none meets it
abbrev pub Absorbs : (old new : Intervals) → Interval → Option Interval → Type 0
Absorbs m n i None = (n ≡ m) × (meets_any m i.low i.high ≡ false)
Absorbs m n i (Some j) = AreApart n × (j.low ≤ℤ j.high) × ((a b : ℤ) → (meets_any n a b || meet a b j.low j.high) ≡ (meets_any m a b || meet a b i.low i.high))

-- the numbers from one end to the other stand there too
pub record Adds (m n : Intervals) (i : Interval) : Type 0 where
  pub apart : AreApart n
  pub adds : (a b : ℤ) → meets_any n a b ≡ (meets_any m a b || meet a b i.low i.high)

abbrev pub Texts : Type 0
Texts = BTreeSet (Bor (List ℕ))

abbrev pub has_text : Texts → (text : List ℕ) → Bool
has_text s text = contains_by (λ k. slice_cmp nat_cmp text k.now) s

-- whether a selector overlaps what is kept
abbrev pub is_taken : Taken → Selector → Bool
is_taken t (Number a) = meets_any t.numbers a a
is_taken t (Range a b) = meets_any t.numbers a b
is_taken t (Truth true) = t.has_true
is_taken t (Truth false) = t.has_false
is_taken t (Text text) = has_text t.texts text
is_taken t Default = t.has_default

-- what is kept of these selectors
pub record Keeps (t : Taken) (before : List Selector) : Type 0 where
  pub apart : AreApart t.numbers
  pub taken : (s : Selector) → is_taken t s ≡ list_any (overlaps s) before
