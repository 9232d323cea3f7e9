use Rattle.std.proofs.Common.{◌==◌, ◌&&◌, ◌||◌, List, map, refl}
use Rattle.std.specs.List.{list_any}
use Rattle.g_infer.specs.declared.reads.Read.{Read}
use Rattle.g_infer.specs.Feeding.{is_at, is_reader, is_reader_in}
use Rattle.g_infer.specs.Reads.{seen_read}
use Rattle.g_infer.proofs.FeedLemmas.{names_at}
use Rattle.g_infer.proofs.feeds.add_readers.Goals as goal

pub loop-k-preserved : goal.loop-k-preserved
loop-k-preserved c = record {
  by_name = λ d name b.
      names_at (λ (rs : List Read). list_any (is_at d name) (map seen_read rs)) (λ (r : Read). is_at d name (seen_read r)) c.args.reads.now c.loop-k.k _
      (is_reader c.add_reader.new.readers.by_name d name b) (is_reader c.loop-k.readers.by_name d name b) (c.args.step == b)
      (is_reader c.args.readers.now.by_name d name b || (list_any (is_at d name) (map seen_read c.args.reads.now) && (c.args.step == b)))
      c.loop-k-test.true (λ y ys. refl) (c.in_ok-add_reader.ensures.by_name d name b) (c.loop-k.invariant.by_name d name b);
  by_diagram = λ d name b.
      names_at (λ (rs : List Read). list_any (is_at d name) (map seen_read rs)) (λ (r : Read). is_at d name (seen_read r)) c.args.reads.now c.loop-k.k _
      (is_reader_in c.add_reader.new.readers.by_diagram d name b) (is_reader_in c.loop-k.readers.by_diagram d name b) (c.args.step == b)
      (is_reader_in c.args.readers.now.by_diagram d name b || (list_any (is_at d name) (map seen_read c.args.reads.now) && (c.args.step == b)))
      c.loop-k-test.true (λ y ys. refl) (c.in_ok-add_reader.ensures.by_diagram d name b) (c.loop-k.invariant.by_diagram d name b);
}
