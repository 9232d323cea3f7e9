use Rattle.std.proofs.Common.{ℕ, ◌<◌}
use Rattle.g_graph.specs.Hints.{NodeShown}
use Rattle.g_graph.proofs.cycles.shows.Given as goal

abbrev pub invariant-loop-node : goal.invariant-loop-node
invariant-loop-node l = (v : ℕ) → v < l.node → NodeShown l.graph l.hints v
