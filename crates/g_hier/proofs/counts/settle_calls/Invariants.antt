use Rattle.std.proofs.Common.{take}
use Rattle.g_hier.specs.Settling.{SettledCalls}
use Rattle.g_hier.proofs.counts.settle_calls.Given as goal

abbrev pub invariant-loop-call : goal.invariant-loop-call
invariant-loop-call l = SettledCalls l.count (take l.call-index l.calls) l.fn.waiting.items l.fn.incoming.items l.fn.ready.items l.waiting.items l.incoming.items l.ready.items
