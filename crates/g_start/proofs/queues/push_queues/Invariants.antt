use Rattle.std.proofs.Common.{◌≡◌, ◌++◌, drop}
use Rattle.g_frames.specs.State.{first_queues}
use Rattle.g_start.proofs.queues.push_queues.Given as goal

abbrev pub invariant-loop-queue : goal.invariant-loop-queue
invariant-loop-queue l = l.objects.items ++ first_queues l.number (drop l.queue-index l.queues) ≡ l.fn.objects.items ++ first_queues 0 l.queues
