use Rattle.std.proofs.Common.{◌≡◌, ◌++◌, map, take}
use Rattle.g_hier.specs.CallGraph.{held}
use Rattle.g_hier.proofs.graph.push_held.Given as goal

abbrev pub invariant-loop-call : goal.invariant-loop-call
invariant-loop-call l = l.all.items ≡ l.fn.all.items ++ map (held l.holder) (take l.call-index l.calls)
