use Rattle.std.proofs.Common.{◌≡◌, ℕ, ◌||◌, List, drop, map}
use Rattle.g_infer.specs.Feeding.{is_reader, is_reader_in}
use Rattle.g_infer.specs.Steps.{seen_step}
use Rattle.g_infer.proofs.FeedLemmas.{reads_from}
use Rattle.g_infer.proofs.feeds.all_readers.Given as goal

abbrev pub invariant-loop-number : goal.invariant-loop-number
invariant-loop-number l = record {
  by_name :
      (d : ℕ) (name : List ℕ) (b : ℕ)
      → (is_reader l.readers.by_name d name b || reads_from l.number (map seen_step (drop l.number l.steps)) d name b) ≡ reads_from 0 (map seen_step l.steps) d name b;
  by_diagram :
      (d : ℕ) (name : List ℕ) (b : ℕ)
      → (is_reader_in l.readers.by_diagram d name b || reads_from l.number (map seen_step (drop l.number l.steps)) d name b) ≡ reads_from 0 (map seen_step l.steps) d name b;
}
