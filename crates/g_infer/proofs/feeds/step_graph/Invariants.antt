use Rattle.std.proofs.Common.{◌≡◌, length, map}
use Rattle.g_infer.specs.Steps.{seen_step}
use Rattle.g_infer.proofs.FeedLemmas.{Rows}
use Rattle.g_infer.proofs.feeds.step_graph.Given as goal

abbrev pub invariant-loop-step : goal.invariant-loop-step
invariant-loop-step l = record {
  len : length l.graph.items ≡ l.step-index;
  rows : Rows l.readers (map seen_step l.steps) l.step-index l.graph.items;
}
