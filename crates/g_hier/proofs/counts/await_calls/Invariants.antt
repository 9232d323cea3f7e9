use Rattle.std.proofs.Common.{◌≡◌, ◌<◌, ◌+◌, ℕ, length, take}
use Rattle.std.specs.Prelude.{slice_index}
use Rattle.g_hier.specs.Counts.{calls_to}
use Rattle.g_hier.proofs.counts.await_calls.Given as goal

abbrev pub invariant-loop-call : goal.invariant-loop-call
invariant-loop-call l = record {
  len : length l.waiting.items ≡ length l.fn.waiting.items;
  waits : (v : ℕ) → v < length l.fn.waiting.items → slice_index l.waiting.items v ≡ slice_index l.fn.waiting.items v + calls_to v (take l.call-index l.calls);
}
