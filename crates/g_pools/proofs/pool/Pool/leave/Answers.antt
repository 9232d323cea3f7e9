use Rattle.std.proofs.Common.{true, ap, ◌∙◌, arith}
use Rattle.g_shared.specs.Outcome.{reply_of}
use Rattle.g_pools.proofs.Steps.{left, left_none, set_pool, past_pool}
use Rattle.g_pools.proofs.pool.Pool.leave.Goals as goal

pub returns-then-clone-self-clause-step : goal.returns-then-clone-self-clause-step
returns-then-clone-self-clause-step c =
    let p = c.self.inside in
    left_none c.args.self.now c.args.clone c.of-reply.result (c.of-reply.ensures ∙ ap reply_of c.new.ensures) (past_pool p.free c.args.self.now p.clones c.args.clone c.self.view_is (omega arith))

pub returns-clause-step : goal.returns-clause-step
returns-clause-step c =
    let p = c.self.inside in
    let old = c.args.self.now in
    let k = c.args.clone in
    left old _ k c.of-reply.result (c.of-reply.ensures ∙ ap reply_of c.new.ensures) (set_pool p.free old p.clones k true c.self.view_is (omega arith))
