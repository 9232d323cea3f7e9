-- A sweep over intervals by their low ends.
use Rattle.std.proofs.Common.{◌≡◌, ◌⊎◌, inl, inr, ℕ, ℤ, zero, suc, pos, ◌+◌, ◌+ℤ◌, ◌-ℤ◌, ◌<◌, ◌≤◌, Bool, true, false, ◌&&◌, List, [], ◌∷◌, length, get_or, refl, ap, sym, ◌∙◌, arith}
use Rattle.std.specs.Prelude.{int_le, int_lt, IsSorted}
use Rattle.std.specs.List.{list_any}
use Rattle.std.specs.Ordering.{is_lt}
use Rattle.std.specs.Cmp.{IsTotalOrder}
use Rattle.std.proofs.lemmas.Cmp.{then_total, on_total, int_cmp_total}
use Rattle.std.proofs.lemmas.Int.{ints}
use Rattle.std.proofs.lemmas.List.{get_or_default}
use Rattle.std.proofs.lemmas.List.Folds.{list_any_at}
use Rattle.std.proofs.lemmas.List.MinMax.{ranks_by}
use Rattle.std.proofs.lemmas.List.Sorted.{sorted_far}
use Rattle.g_types.specs.declared.rep.Rep.{Rep}
use Rattle.g_types.specs.Rep.{half, size}
use Rattle.g_diagram.specs.declared.node.Selector.{Selector}
use Rattle.g_rules_cases.specs.Held.{has_number}
use Rattle.g_rules_cases.specs.Searched.{least, misses_number}
use Rattle.g_rules_cases.proofs.Covering.{Left, missed, only_missed}
use Rattle.g_rules_types.specs.declared.gaps.Interval.{Interval}
use Rattle.g_rules_types.specs.Gaps.{has, within, Gap, TellsGap, interval_cmp, Advances}

known_next : (next high n : ℤ) → (int_le next n && int_lt n (high +ℤ pos 1)) ≡ true → int_le n high ≡ true
known_next next high n e = grind (arith, ints)

behind_next : (high past n : ℤ) → (int_le (high +ℤ pos 1) n && int_lt n past) ≡ true → int_le n high ≡ false
behind_next high past n e = grind (arith, ints)

on_next : (next high past n : ℤ) → int_lt high next ≡ false → (int_le (high +ℤ pos 1) n && int_lt n past) ≡ true → int_le next n ≡ true
on_next next high past n f e = grind (arith, ints)

-- past its high end
pub past_end : (next past high : ℤ) → int_lt high next ≡ false → Advances next past high (high +ℤ pos 1)
past_end next past high f = record {
  known = λ n e. known_next next high n e;
  behind = λ n e. behind_next high past n e;
  on = λ n e. on_next next high past n f e;
}

interval_total : IsTotalOrder interval_cmp
interval_total = then_total (on_total (λ (i : Interval). i.low) int_cmp_total) (on_total (λ (i : Interval). i.high) int_cmp_total)

any_none : {X : Type 0} (p : X → Bool) (xs : List X) → ((j : ℕ) (d : X) → j < length xs → p (get_or xs j d) ≡ false) → list_any p xs ≡ false
any_none p [] h = refl
any_none p (x ∷ xs) h = rw (h zero x (omega arith)) (any_none p xs (λ j d lt. h (suc j) d (omega arith)))

-- What is known after the intervals below number i: the numbers below next lie in some of them, and those from next on in none of these.
pub record Swept (low past : ℤ) (is : List Interval) (next : ℤ) (i : ℕ) : Type 0 where
  pub known : (n : ℤ) → within low next n ≡ true → list_any (has n) is ≡ true
  pub behind : (n : ℤ) → within next past n ≡ true → (j : ℕ) (d : Interval) → j < i → int_le n (get_or is j d).high ≡ false
  pub on : (n : ℤ) → within next past n ≡ true → int_le low n ≡ true

nothing_between : (low n : ℤ) → within low low n ≡ false
nothing_between low n = grind (arith, ints)

first_part : (a b : Bool) → (a && b) ≡ true → a ≡ true
first_part true b e = refl
first_part false b e = e

clash : {T : Type 0} (b : Bool) → b ≡ true → b ≡ false → T
clash b e f = absurd cc

pub swept_start : (low past : ℤ) (is : List Interval) → Swept low past is low 0
swept_start low past is = record {
  known = λ n e. clash (within low low n) e (nothing_between low n);
  behind = λ n e j d lt. absurd (omega (arith, lt));
  on = λ n e. first_part (int_le low n) (int_lt n past) e;
}

below_next : (low next result n : ℤ) → within low result n ≡ true → int_lt n next ≡ true → within low next n ≡ true
below_next low next result n e f = grind (arith, ints)

from_next : (low next result n : ℤ) → within low result n ≡ true → int_lt n next ≡ false → (int_le next n && int_lt n result) ≡ true
from_next low next result n e f = grind (arith, ints)

in_it : (low next result n : ℤ) (i : Interval) → int_lt next i.low ≡ false → within low result n ≡ true → int_lt n next ≡ false → int_le n i.high ≡ true → has n i ≡ true
in_it low next result n i g e f h = grind (arith, ints)

still_within : (next result past n : ℤ) → within result past n ≡ true → int_le next n ≡ true → within next past n ≡ true
still_within next result past n e f = grind (arith, ints)

last_or : (k n : ℕ) → k < n + 1 → (k ≡ n) ⊎ (k < n)
last_or k n lt = grind arith

known_by : (low past : ℤ) (is : List Interval) (next result : ℤ) (i : ℕ) (d : Interval) → i < length is → int_lt next (get_or is i d).low ≡ false
    → Swept low past is next i → Advances next past (get_or is i d).high result → (n : ℤ) → within low result n ≡ true → (b : Bool) → int_lt n next ≡ b → list_any (has n) is ≡ true
known_by low past is next result i d lt begins s a n e true f = s.known n (below_next low next result n e f)
known_by low past is next result i d lt begins s a n e false f =
    list_any_at (has n) is i d lt (in_it low next result n (get_or is i d) begins e f (a.known n (from_next low next result n e f)))

behind_by : (low past : ℤ) (is : List Interval) (next result : ℤ) (i : ℕ) (d : Interval) → i < length is
    → Swept low past is next i → Advances next past (get_or is i d).high result → (n : ℤ) → within result past n ≡ true → (j : ℕ) (e : Interval) → (j ≡ i) ⊎ (j < i)
    → int_le n (get_or is j e).high ≡ false
behind_by low past is next result i d lt s a n w j e (inl same) =
    let at : get_or is j e ≡ get_or is i d = ap (λ (k : ℕ). get_or is k e) same ∙ get_or_default is i e d lt in
    ap (λ (x : Interval). int_le n x.high) at ∙ a.behind n w
behind_by low past is next result i d lt s a n w j e (inr less) = s.behind n (still_within next result past n w (a.on n w)) j e less

-- one more interval
pub swept_step : (low past : ℤ) (is : List Interval) (next result : ℤ) (i : ℕ) (d : Interval) → i < length is → int_lt next (get_or is i d).low ≡ false
    → Swept low past is next i → Advances next past (get_or is i d).high result → Swept low past is result (i + 1)
swept_step low past is next result i d lt begins s a = record {
  known = λ n e. known_by low past is next result i d lt begins s a n e (int_lt n next) refl;
  behind = λ n w j e less. behind_by low past is next result i d lt s a n w j e (last_or j i less);
  on = λ n w. s.on n (still_within next result past n w (a.on n w));
}

next_within : (next past : ℤ) → int_lt next past ≡ true → within next past next ≡ true
next_within next past e = grind (arith, ints)

low_within : (low next past : ℤ) → int_le low next ≡ true → int_lt next past ≡ true → within low past next ≡ true
low_within low next past e f = rw (e) (f)

all_below : (low next past n : ℤ) → int_lt next past ≡ false → within low past n ≡ true → within low next n ≡ true
all_below low next past n e f = grind (arith, ints)

-- the sweep ends where no interval has next
pub tells : (low past : ℤ) (is : List Interval) (next : ℤ) (i : ℕ) → Swept low past is next i → (b : Bool) → int_lt next past ≡ b
    → (int_lt next past ≡ true → list_any (has next) is ≡ false) → TellsGap low past is b
tells low past is next i s true e none = record {
  number = next;
  within = low_within low next past (s.on next (next_within next past e)) e;
  none = none e;
}
tells low past is next i s false e none = λ n w. s.known n (all_below low next past n e w)

not_in : (n : ℤ) (i : Interval) → int_le n i.high ≡ false → has n i ≡ false
not_in n i e = grind (arith, ints)

before_it : (n : ℤ) (i : Interval) → int_lt n i.low ≡ true → has n i ≡ false
before_it n i e = grind (arith, ints)

-- all were looked at
pub none_at_end : (low past : ℤ) (is : List Interval) (next : ℤ) (i : ℕ) → length is ≤ i → Swept low past is next i → int_lt next past ≡ true → list_any (has next) is ≡ false
none_at_end low past is next i le s e = any_none (has next) is (λ j d lt. not_in next (get_or is j d) (s.behind next (next_within next past e) j d (omega (arith, lt, le))))

rises : (a b : Interval) → is_lt (interval_cmp b a) ≡ false → int_lt b.low a.low ≡ false
rises a b e = rises_by (int_lt b.low a.low) refl
  where
    rises_by : (t : Bool) → int_lt b.low a.low ≡ t → int_lt b.low a.low ≡ false
    rises_by true f = absurd (cc)
    rises_by false f = f

further : (n : ℤ) (a b : Interval) → int_lt n a.low ≡ true → int_lt b.low a.low ≡ false → int_lt n b.low ≡ true
further n a b e f = grind (arith, ints)

later : (n : ℤ) (is : List Interval) (i j : ℕ) (d : Interval) → IsSorted interval_cmp is → i ≤ j → j < length is → int_lt n (get_or is i d).low ≡ true → has n (get_or is j d) ≡ false
later n is i j d up le lt e =
    before_it n (get_or is j d) (further n (get_or is i d) (get_or is j d) e
    (rises (get_or is i d) (get_or is j d) (sorted_far (λ x y. is_lt (interval_cmp x y)) (ranks_by interval_total (λ x. x)) is up i j d le lt)))

either_side : (i j : ℕ) → (j < i) ⊎ (i ≤ j)
either_side i j = grind arith

none_by : (low past : ℤ) (is : List Interval) (next : ℤ) (i : ℕ) (d : Interval) → i < length is → IsSorted interval_cmp is → int_lt next (get_or is i d).low ≡ true → Swept low past is next i
    → int_lt next past ≡ true → (j : ℕ) (e : Interval) → j < length is → (j < i) ⊎ (i ≤ j) → has next (get_or is j e) ≡ false
none_by low past is next i d here up gap s w j e lt (inl less) = not_in next (get_or is j e) (s.behind next (next_within next past w) j e less)
none_by low past is next i d here up gap s w j e lt (inr le) =
    later next is i j e up le lt (ap (λ (x : Interval). int_lt next x.low) (get_or_default is i e d here) ∙ gap)

-- this and all further ones begin after next
pub none_from : (low past : ℤ) (is : List Interval) (next : ℤ) (i : ℕ) (d : Interval) → i < length is → IsSorted interval_cmp is → int_lt next (get_or is i d).low ≡ true → Swept low past is next i
    → int_lt next past ≡ true → list_any (has next) is ≡ false
none_from low past is next i d here up gap s w = any_none (has next) is (λ j e lt. none_by low past is next i d here up gap s w j e lt (either_side i j))

abbrev past : Rep → ℤ
past r = pos (size r) -ℤ pos (half r)

missed_by : (r : Rep) (ss : List Selector) (is : List Interval) → ((n : ℤ) → list_any (has n) is ≡ list_any (has_number n) ss) → Gap (least r) (past r) is → misses_number r ss ≡ true
missed_by r ss is same g = missed r ss g.number g.within (sym (same g.number) ∙ g.none)

covered_by : (r : Rep) (ss : List Selector) (is : List Interval) → ((n : ℤ) → list_any (has n) is ≡ list_any (has_number n) ss)
    → ((n : ℤ) → within (least r) (past r) n ≡ true → list_any (has n) is ≡ true) → (b : Bool) → misses_number r ss ≡ b → b ≡ false
covered_by r ss is same all true e =
    let left : Left r ss = only_missed r ss e in
    clash (list_any (has_number left.number) ss) (sym (same left.number) ∙ all left.number left.in_range) left.left
covered_by r ss is same all false e = refl

-- a case misses a number exactly where its intervals have a gap
pub tells_missed : (r : Rep) (ss : List Selector) (is : List Interval) (b : Bool) → ((n : ℤ) → list_any (has n) is ≡ list_any (has_number n) ss)
    → TellsGap (least r) (past r) is b → b ≡ misses_number r ss
tells_missed r ss is true same g = sym (missed_by r ss is same g)
tells_missed r ss is false same all = sym (covered_by r ss is same all (misses_number r ss) refl)
