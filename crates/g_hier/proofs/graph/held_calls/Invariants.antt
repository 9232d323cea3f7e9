use Rattle.std.proofs.Common.{◌≡◌, ◌++◌, drop}
use Rattle.g_hier.specs.CallGraph.{held_from}
use Rattle.g_hier.proofs.graph.held_calls.Given as goal

abbrev pub invariant-loop-vi : goal.invariant-loop-vi
invariant-loop-vi l = l.all.items ++ held_from l.vi (drop l.vi l.outlines) ≡ held_from 0 l.outlines
