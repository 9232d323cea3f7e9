use Rattle.std.proofs.Common.{◌≡◌, ◌≤◌, ℕ, List, length, take}
use Rattle.g_hier.specs.Counts.{told, nodes_in}
use Rattle.g_hier.specs.Settling.{AreTold}
use Rattle.g_hier.proofs.counts.node_count.Given as goal

abbrev pub invariant-loop-vi : goal.invariant-loop-vi
invariant-loop-vi l = record {
  kept : l.sum ≤ 9223372036854775808;
  sum : (exact : List ℕ) → AreTold l.counts exact → length exact ≡ length l.outlines → l.sum ≡ told (nodes_in (take l.vi l.outlines) (take l.vi exact));
}
