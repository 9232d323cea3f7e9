use Rattle.std.proofs.Common.{◌≡◌, ◌<◌, ℕ, false}
use Rattle.std.specs.Prelude.{is_some}
use Rattle.g_shared.specs.declared.operations.PoolOp.TheVariants.{Enter}
use Rattle.g_shared.specs.Pools.{pool_step}
use Rattle.g_pools.proofs.pool.Pool.least_free.Given as goal

-- none of those before is free
abbrev pub invariant-loop-clone : goal.invariant-loop-clone
invariant-loop-clone l = (k : ℕ) → k < l.clone → is_some (pool_step l.self Enter k) ≡ false
