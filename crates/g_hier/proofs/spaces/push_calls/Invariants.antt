use Rattle.std.proofs.Common.{◌≡◌, ◌-◌, ◌++◌, reverse, length, drop}
use Rattle.g_hier.specs.LinkOrder.{entered_by}
use Rattle.g_hier.proofs.spaces.push_calls.Given as goal

abbrev pub invariant-loop-done : goal.invariant-loop-done
invariant-loop-done l = l.pending.items ≡ l.fn.pending.items ++ reverse (entered_by l.outlines l.space l.system (drop (length l.calls - l.done) l.calls))
