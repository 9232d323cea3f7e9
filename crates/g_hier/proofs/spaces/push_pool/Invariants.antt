use Rattle.std.proofs.Common.{◌≡◌, ◌-◌, ◌++◌, reverse}
use Rattle.g_hier.specs.Walking.{pool_placed}
use Rattle.g_hier.proofs.spaces.push_pool.Given as goal

abbrev pub invariant-loop-done : goal.invariant-loop-done
invariant-loop-done l = l.pending.items ≡ l.fn.pending.items ++ reverse (pool_placed l.vi (l.count - l.done) l.done l.system)
