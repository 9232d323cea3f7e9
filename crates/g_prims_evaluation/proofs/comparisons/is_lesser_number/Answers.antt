use Rattle.std.proofs.Common.{◌∙◌, ap, sym, int_lt}
use Rattle.g_types.specs.Rep.{wrap}
use Rattle.g_prims_evaluation.proofs.Equalities.{less-Num}
use Rattle.g_prims_evaluation.proofs.comparisons.is_lesser_number.Goals as goal

pub returns : goal.returns
returns c =
    let x = c.args.x in
    let y = c.args.y in
    c.is_below.ensures
    ∙ ap (λ k. int_lt k.n c.in_rep-2.result.n) c.in_rep.ensures
    ∙ ap (λ k. int_lt (wrap c.wider-rep.result x.n) k.n) c.in_rep-2.ensures
    ∙ ap (λ r. int_lt (wrap r x.n) (wrap r y.n)) c.wider-rep.ensures
    ∙ sym (less-Num x y)
