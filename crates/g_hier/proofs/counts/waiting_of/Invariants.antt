use Rattle.std.proofs.Common.{◌≡◌, ◌<◌, ℕ, length, take}
use Rattle.std.specs.Prelude.{slice_index}
use Rattle.g_hier.specs.Settling.{all_calls_to}
use Rattle.g_hier.proofs.counts.waiting_of.Given as goal

abbrev pub invariant-loop-outline : goal.invariant-loop-outline
invariant-loop-outline l = record {
  len : length l.waiting.items ≡ length l.outlines;
  waits : (v : ℕ) → v < length l.outlines → slice_index l.waiting.items v ≡ all_calls_to v (take l.outline-index l.outlines);
}
