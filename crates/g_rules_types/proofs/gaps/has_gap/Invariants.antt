use Rattle.g_rules_types.proofs.Sweeping.{Swept}
use Rattle.g_rules_types.proofs.gaps.has_gap.Given as goal

abbrev pub invariant-loop-interval : goal.invariant-loop-interval
invariant-loop-interval l = Swept l.low l.past l.intervals l.next l.interval-index
