use Rattle.std.proofs.Common.{◌≡◌, ◌++◌, drop}
use Rattle.g_frames.specs.Program.{Program}
use Rattle.g_frames.specs.State.{first_pools}
use Rattle.g_program.specs.Tables.{IsTableOf}
use Rattle.g_start.proofs.pools.push_pools.Given as goal

abbrev pub invariant-loop-vi : goal.invariant-loop-vi
invariant-loop-vi l = (p : Program) → IsTableOf p l.tables → l.objects.items ++ first_pools p (drop l.vi-index l.pools) ≡ l.fn.objects.items ++ first_pools p l.pools
