use Rattle.std.proofs.Common.{ℕ, ◌+◌, ◌==◌, ◌&&◌, ◌||◌, List, map, refl, ap, ◌∙◌, arith}
use Rattle.std.specs.List.{list_any}
use Rattle.g_infer.specs.declared.reads.Read.{Read}
use Rattle.g_infer.specs.declared.steps.Step.{Step}
use Rattle.g_infer.specs.Feeding.{is_at, is_reader, is_reader_in}
use Rattle.g_infer.specs.Reads.{all_named, form_reads, seen_read}
use Rattle.g_infer.specs.Steps.{seen_step}
use Rattle.g_infer.proofs.FeedLemmas.{reads_from, reads_are, tests_more, tests_end}
use Rattle.g_infer.proofs.feeds.all_readers.Goals as goal

pub loop-number-preserved : goal.loop-number-preserved
loop-number-preserved c = record {
  by_name = λ d name b.
      let k : ℕ = c.loop-number.number in
      let steps : List Step = c.args.steps.now in
      tests_more (λ (ss : List Step). reads_from k (map seen_step ss) d name b) (λ (ss : List Step). reads_from (k + 1) (map seen_step ss) d name b)
      (list_any (is_at d name) (all_named (form_reads (seen_step c.index-steps-number.result))) && (k == b)) steps k c.index-steps-number.result
      (is_reader c.add_readers.new.readers.by_name d name b) (is_reader c.loop-number.readers.by_name d name b) (reads_from 0 (map seen_step steps) d name b)
      c.loop-number-test.true c.index-steps-number.is refl
      (c.in_ok-add_readers.ensures.by_name d name b
      ∙ ap (λ (rs : List Read). is_reader c.loop-number.readers.by_name d name b || (list_any (is_at d name) (map seen_read rs) && (k == b))) c.as_slice.ensures.value
      ∙ ap (λ (ps : List (ℕ × List ℕ)). is_reader c.loop-number.readers.by_name d name b || (list_any (is_at d name) ps && (k == b))) c.in_ok-names.ensures)
      (c.loop-number.invariant.by_name d name b);
  by_diagram = λ d name b.
      let k : ℕ = c.loop-number.number in
      let steps : List Step = c.args.steps.now in
      tests_more (λ (ss : List Step). reads_from k (map seen_step ss) d name b) (λ (ss : List Step). reads_from (k + 1) (map seen_step ss) d name b)
      (list_any (is_at d name) (all_named (form_reads (seen_step c.index-steps-number.result))) && (k == b)) steps k c.index-steps-number.result
      (is_reader_in c.add_readers.new.readers.by_diagram d name b) (is_reader_in c.loop-number.readers.by_diagram d name b) (reads_from 0 (map seen_step steps) d name b)
      c.loop-number-test.true c.index-steps-number.is refl
      (c.in_ok-add_readers.ensures.by_diagram d name b
      ∙ ap (λ (rs : List Read). is_reader_in c.loop-number.readers.by_diagram d name b || (list_any (is_at d name) (map seen_read rs) && (k == b))) c.as_slice.ensures.value
      ∙ ap (λ (ps : List (ℕ × List ℕ)). is_reader_in c.loop-number.readers.by_diagram d name b || (list_any (is_at d name) ps && (k == b))) c.in_ok-names.ensures)
      (c.loop-number.invariant.by_diagram d name b);
}

pub returns : goal.returns
returns c = record {
  by_name = λ d name b.
      let k : ℕ = c.loop-number.number in
      let steps : List Step = c.args.steps.now in
      tests_end (λ (ss : List Step). reads_from k (map seen_step ss) d name b) steps k (is_reader c.loop-number.readers.by_name d name b) (reads_from 0 (map seen_step steps) d name b)
      c.loop-number-test.false refl (c.loop-number.invariant.by_name d name b)
      ∙ reads_are 0 b b (map seen_step steps) d name (omega arith);
  by_diagram = λ d name b.
      let k : ℕ = c.loop-number.number in
      let steps : List Step = c.args.steps.now in
      tests_end (λ (ss : List Step). reads_from k (map seen_step ss) d name b) steps k (is_reader_in c.loop-number.readers.by_diagram d name b) (reads_from 0 (map seen_step steps) d name b)
      c.loop-number-test.false refl (c.loop-number.invariant.by_diagram d name b)
      ∙ reads_are 0 b b (map seen_step steps) d name (omega arith);
}
