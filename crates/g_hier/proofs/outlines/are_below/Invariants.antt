use Rattle.std.proofs.Common.{◌<◌, All, take}
use Rattle.g_hier.specs.declared.linked.CallLine.{CallLine}
use Rattle.g_hier.proofs.outlines.are_below.Given as goal

abbrev pub invariant-loop-call : goal.invariant-loop-call
invariant-loop-call l = All (λ (c : CallLine). c.vi < l.count) (take l.call-index l.calls)
