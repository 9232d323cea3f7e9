use Rattle.std.proofs.Common.{◌≡◌, ℕ, List, length, map, arith}
use Rattle.std.proofs.lemmas.List.{length-map}
use Rattle.g_infer.specs.declared.steps.Step.{Step}
use Rattle.g_infer.specs.Steps.{seen_step}
use Rattle.g_infer.proofs.FeedLemmas.{all_rows, both_same, feeding, in_range}
use Rattle.g_infer.proofs.feeds.step_graph.Goals as goal

pub step_row-requires : goal.step_row-requires
step_row-requires c = both_same (map seen_step c.args.steps.now) c.in_ok-readers.readers c.in_ok-readers.ensures

pub returns-clause-range : goal.returns-clause-range
returns-clause-range c =
    let steps : List Step = c.args.steps.now in
    let i : ℕ = c.loop-step.step-index in
    let same : length (map seen_step steps) ≡ length steps = length-map steps seen_step in
    in_range (map seen_step steps) c.in_ok-readers.readers c.loop-step.graph.items c.in_ok-readers.ensures
    (all_rows seen_step c.in_ok-readers.readers steps i c.loop-step.graph.items c.loop-step-test.false c.loop-step.invariant.rows)
    (omega (arith, same, c.loop-step.invariant.len, c.loop-step-test.false))

pub returns-clause-edges : goal.returns-clause-edges
returns-clause-edges c =
    let steps : List Step = c.args.steps.now in
    let i : ℕ = c.loop-step.step-index in
    feeding (map seen_step steps) c.in_ok-readers.readers c.loop-step.graph.items c.in_ok-readers.ensures
    (all_rows seen_step c.in_ok-readers.readers steps i c.loop-step.graph.items c.loop-step-test.false c.loop-step.invariant.rows)
