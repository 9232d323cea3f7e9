use Rattle.std.proofs.Common.{◌≡◌, [], ◌∷◌, map, subst}
use Rattle.g_values.specs.Value.{type_of}
use Rattle.g_prims_evaluation.proofs.InputLemmas.{pair_of}
use Rattle.g_arrays.specs.Acting.{Acts, placed}
use Rattle.g_arrays.proofs.ActLemmas.{three_is, few_are}
use Rattle.g_arrays.proofs.act.reading.Goals as goal

pub before_two-requires : goal.before_two-requires
before_two-requires c =
    let p = c.args.primitive.now in
    let k = c.args.kept in
    let x = c.second-item.result in
    let y = c.third-item.result in
    let is : c.args.others.now ≡ x ∷ y ∷ [] = pair_of c.args.others.now x y c.in-len2.len_at_least c.in-len2.len_below c.second-item.is c.third-item.is in
    (three_is p c.args.at k x y c.requires.reads (subst (λ l. Acts p c.args.at (map type_of (placed c.args.at k l))) is c.requires.acts)).1

pub returns-in_default : goal.returns-in_default
returns-in_default c =
    absurd (let e = few_are c.args.primitive.now c.args.at c.args.kept c.args.others.now c.requires.reads c.requires.acts c.in_default.len_at_least in cc)
