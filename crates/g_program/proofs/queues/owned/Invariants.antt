use Rattle.std.proofs.Common.{◌≡◌, ◌++◌, map, drop}
use Rattle.g_program.specs.Queues.{seen_queue}
use Rattle.g_program.proofs.queues.owned.Given as goal

abbrev pub invariant-loop-line : goal.invariant-loop-line
invariant-loop-line l = l.queues.items ++ map seen_queue (drop l.line-index l.lines) ≡ map seen_queue l.lines
