use Rattle.std.proofs.Common.{◌≡◌, ℕ, ◌==◌, ◌&&◌, ◌||◌, List, drop, map}
use Rattle.std.specs.List.{list_any}
use Rattle.g_infer.specs.Feeding.{is_at, is_reader, is_reader_in}
use Rattle.g_infer.specs.Reads.{seen_read}
use Rattle.g_infer.proofs.feeds.add_readers.Given as goal

abbrev pub invariant-loop-k : goal.invariant-loop-k
invariant-loop-k l = record {
  by_name :
      (d : ℕ) (name : List ℕ) (b : ℕ)
      → (is_reader l.readers.by_name d name b || (list_any (is_at d name) (map seen_read (drop l.k l.reads)) && (l.step == b)))
      ≡ (is_reader l.fn.readers.by_name d name b || (list_any (is_at d name) (map seen_read l.reads) && (l.step == b)));
  by_diagram :
      (d : ℕ) (name : List ℕ) (b : ℕ)
      → (is_reader_in l.readers.by_diagram d name b || (list_any (is_at d name) (map seen_read (drop l.k l.reads)) && (l.step == b)))
      ≡ (is_reader_in l.fn.readers.by_diagram d name b || (list_any (is_at d name) (map seen_read l.reads) && (l.step == b)));
}
