use Rattle.std.proofs.Common.{◌≡◌, ◌<◌, ◌≤◌, ◌==◌, ℕ}
use Rattle.std.specs.Prelude.{slice_index}
use Rattle.g_hier.specs.Counts.{one_if}
use Rattle.g_hier.specs.Settling.{times}
use Rattle.g_hier.proofs.counts.ready_of.Given as goal

abbrev pub invariant-loop-vi : goal.invariant-loop-vi
invariant-loop-vi l = record {
  below : (v : ℕ) → v < l.vi → times v l.ready.items ≡ one_if (slice_index l.waiting v == 0);
  beyond : (v : ℕ) → l.vi ≤ v → times v l.ready.items ≡ 0;
}
