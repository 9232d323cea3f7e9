use Rattle.std.proofs.Common.{◌≡◌, ◌++◌, map, drop}
use Rattle.g_program.specs.Queues.{seen_queue}
use Rattle.g_program.proofs.queues.names_of.Given as goal

abbrev pub invariant-loop-line : goal.invariant-loop-line
invariant-loop-line l =
    map (λ n. n.now) l.names.items ++ map (λ q. q.name) (map seen_queue (drop l.line-index l.lines)) ≡ map (λ q. q.name) (map seen_queue l.lines)
