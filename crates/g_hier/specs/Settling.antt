-- Inner: how the data spaces are counted: a VI is settled once all VIs that call it are.
use Rattle.std.specs.Prelude.{ℕ, zero, suc, ◌≡◌, ◌≤◌, ◌<◌, ◌+◌, ◌*◌, ◌==◌, List, [], ◌∷◌, ◌++◌, length, slice_get, slice_index, Some}
use Rattle.g_hier.specs.declared.linked.CallLine.{CallLine}
use Rattle.g_hier.specs.declared.linked.Outline.{Outline}
use Rattle.g_hier.specs.Counts.{one_if, calls_to, callers, count_for, told, AreCounts}

-- how often a number stands in a list
abbrev pub times : ℕ → List ℕ → ℕ
times v [] = 0
times v (x ∷ xs) = one_if (x == v) + times v xs

abbrev pub total : List ℕ → ℕ
total [] = 0
total (x ∷ xs) = x + total xs

-- how many call lines call a VI
abbrev pub all_calls_to : (vi : ℕ) → List Outline → ℕ
all_calls_to v [] = 0
all_calls_to v (o ∷ os) = calls_to v o.calls + all_calls_to v os

-- a VI that waits for no call line any more is ready
abbrev pub pushed : (left : ℕ) → List ℕ → (vi : ℕ) → List ℕ
pushed zero ready vi = ready ++ vi ∷ []
pushed (suc n) ready vi = ready

-- 1 where the last call line was counted
abbrev pub freed : (before after : ℕ) → ℕ
freed zero b = 0
freed (suc a) zero = 1
freed (suc a) (suc b) = 0

-- some call lines of a VI that has `count` data spaces are counted: what waited, came in and was ready before, and what does after
pub record SettledCalls (count : ℕ) (cs : List CallLine) (waiting incoming ready waits comes stands : List ℕ) : Type 0 where
  pub long_waits : length waits ≡ length waiting
  pub long_comes : length comes ≡ length incoming
  pub waits_less : (v : ℕ) → v < length incoming → slice_index waits v + calls_to v cs ≡ slice_index waiting v
  pub comes_more : (v : ℕ) → v < length incoming → slice_index comes v ≡ told (slice_index incoming v + count * calls_to v cs)
  pub now_ready : (v : ℕ) → v < length incoming → times v stands ≡ times v ready + freed (slice_index waiting v) (slice_index waits v)
  pub beyond : (v : ℕ) → length incoming ≤ v → times v stands ≡ times v ready
  pub measure : total waits + length stands ≤ total waiting + length ready

-- counts as they are told
abbrev pub AreTold : (told_counts counts : List ℕ) → Type 0
AreTold told_counts counts = (v : ℕ) → slice_index told_counts v ≡ told (slice_index counts v)

-- some VIs are settled, and have their counts; the others have none yet
pub record Settling (os : List Outline) (main : ℕ) (waiting incoming told_counts ready : List ℕ) : Type 0 where
  pub counts : List ℕ
  -- 1 where a VI isn't settled
  pub left : List ℕ
  pub long_waiting : length waiting ≡ length os
  pub long_incoming : length incoming ≡ length os
  pub long_told : length told_counts ≡ length os
  pub long_counts : length counts ≡ length os
  pub long_left : length left ≡ length os
  pub one_left : (v : ℕ) → slice_index left v ≤ 1
  pub none_yet : (v : ℕ) → slice_index left v ≡ 1 → slice_index counts v ≡ 0
  pub waiting_is : (v : ℕ) → v < length os → slice_index waiting v ≡ callers v os left
  pub incoming_is : (v : ℕ) → v < length os → slice_index incoming v ≡ told (callers v os counts)
  pub told_is : AreTold told_counts counts
  pub settled : (v : ℕ) (o : Outline) → slice_get os v ≡ Some o → slice_index left v ≡ 0
      → slice_index counts v ≡ count_for (v == main) o.clones (callers v os counts)
  pub callers_first : (v : ℕ) → v < length os → slice_index left v ≡ 0 → callers v os left ≡ 0
  pub is_ready : (v : ℕ) → v < length os → callers v os left ≡ 0 → times v ready ≡ slice_index left v
  pub not_ready : (v : ℕ) → v < length os → 0 < callers v os left → times v ready ≡ 0
  pub beyond : (v : ℕ) → length os ≤ v → times v ready ≡ 0

pub record AreToldCounts (os : List Outline) (main : ℕ) (told_counts : List ℕ) : Type 0 where
  pub counts : List ℕ
  pub are : AreCounts os main counts
  pub long_counts : length counts ≡ length os
  pub long : length told_counts ≡ length os
  pub told_is : AreTold told_counts counts
