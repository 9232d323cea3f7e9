use Rattle.std.proofs.Common.{◌≡◌, ◌-◌, ℕ, List, length, drop}
use Rattle.std.specs.BTreeMap.{get_by}
use Rattle.std.specs.Cmp.Lexicographic.{slice_cmp}
use Rattle.std.specs.Ordering.{nat_cmp}
use Rattle.g_hier.specs.Numbers.{first_number}
use Rattle.g_hier.proofs.outlines.first_numbers.Given as goal

abbrev pub invariant-loop-done : goal.invariant-loop-done
invariant-loop-done l = (q : List ℕ) → get_by (λ k. slice_cmp nat_cmp q k.now) l.first ≡ first_number (length l.vis - l.done) (drop (length l.vis - l.done) l.vis) q
