use Rattle.std.proofs.Common.{◌≡◌, [], ◌∷◌, subst}
use Rattle.g_prims_definitions.specs.Conditions.{HasRow}
use Rattle.g_prims_definitions.proofs.RowLemmas.{equal_types}
use Rattle.g_prims_evaluation.proofs.InputLemmas.{pair_of}
use Rattle.g_prims_evaluation.proofs.values.by_count.Goals as goal

pub two_inputs-requires-clause-types : goal.two_inputs-requires-clause-types
two_inputs-requires-clause-types c =
    let p = c.args.primitive.now in
    let x = c.x-item-then-ins-lt3.result in
    let y = c.y-item.result in
    let is : c.args.ins.now ≡ x ∷ y ∷ [] = pair_of c.args.ins.now x y c.in-len2.len_at_least c.in-len2.len_below c.x-item-then-ins-lt3.is c.y-item.is in
    equal_types p x y (subst (HasRow p) is c.requires.row)
