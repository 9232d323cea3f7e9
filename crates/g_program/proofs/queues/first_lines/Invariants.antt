use Rattle.std.proofs.Common.{◌≡◌, ◌++◌, [], map, drop, reverse}
use Rattle.g_frames.specs.Program.{first_of_each}
use Rattle.g_program.specs.Queues.{HaveMet, seen_queue}
use Rattle.g_program.proofs.queues.first_lines.Given as goal

abbrev pub invariant-loop-line : goal.invariant-loop-line
invariant-loop-line l = record {
  met : HaveMet l.met l.queues.items;
  queues : map seen_queue l.queues.items ++ first_of_each (map seen_queue (drop l.line-index l.all)) (reverse (map seen_queue l.queues.items)) ≡ first_of_each (map seen_queue l.all) [];
}
