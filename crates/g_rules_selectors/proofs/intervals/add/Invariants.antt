use Rattle.std.proofs.Common.{◌≡◌, ◌+◌, ◌||◌, ℤ, ◌≤ℤ◌}
use Rattle.std.specs.BTreeMap.{btree_map_len}
use Rattle.g_rules_selectors.specs.Clashes.{meet}
use Rattle.g_rules_selectors.specs.Taken.{AreApart, meets_any}
use Rattle.g_rules_selectors.proofs.intervals.add.Given as goal

abbrev pub invariant-loop : goal.invariant-loop
invariant-loop l = record {
  apart : AreApart l.fn.known → AreApart l.known;
  rises : AreApart l.fn.known → l.whole.low ≤ℤ l.whole.high;
  numbers : AreApart l.fn.known → (a b : ℤ) → (meets_any l.known a b || meet a b l.whole.low l.whole.high) ≡ (meets_any l.fn.known a b || meet a b l.fn.interval.low l.fn.interval.high);
  left : btree_map_len l.known + l.counter ≡ btree_map_len l.fn.known;
}
