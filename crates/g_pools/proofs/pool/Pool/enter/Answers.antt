use Rattle.std.proofs.Common.{◌∷◌, [], false, ap, ◌∙◌, arith}
use Rattle.g_values.specs.declared.value.Value.{Value}
use Rattle.g_pools.proofs.Steps.{enter_within, entered, set_pool, within_pool}
use Rattle.g_pools.proofs.pool.Pool.enter.Goals as goal

pub bounds-self-inside-clone : goal.bounds-self-inside-clone
bounds-self-inside-clone c =
    let p = c.self.inside in
    let less = within_pool p.free c.args.self.now p.clones c.args.clone c.self.view_is (enter_within c.args.self.now c.args.clone c.requires) in
    omega arith

pub returns-clause-ok : goal.returns-clause-ok
returns-clause-ok c =
    let p = c.self.inside in
    let old = c.args.self.now in
    let k = c.args.clone in
    let less = within_pool p.free old p.clones k c.self.view_is (enter_within old k c.requires) in
    entered old _ k c.in_ok-values.values c.requires
    (c.in_ok-values.ensures ∙ ap (λ (v : Value). v ∷ []) c.clone_number.ensures.value)
    (set_pool p.free old p.clones k false c.self.view_is less)
