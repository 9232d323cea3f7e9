use Rattle.std.proofs.Common.{true}
use Rattle.std.proofs.lemmas.List.{take-replicate}
use Rattle.g_pools.proofs.pool.Pool.new.Goals as goal

pub returns : goal.returns
returns c = take-replicate c.args.clones 64 true c.requires.1
