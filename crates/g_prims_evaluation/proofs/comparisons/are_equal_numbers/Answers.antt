use Rattle.std.proofs.Common.{◌∙◌, ap, sym}
use Rattle.std.specs.Ordering.{int_eq}
use Rattle.g_types.specs.Rep.{wrap}
use Rattle.g_prims_evaluation.proofs.Equalities.{equal-Num}
use Rattle.g_prims_evaluation.proofs.comparisons.are_equal_numbers.Goals as goal

pub returns : goal.returns
returns c =
    let x = c.args.x in
    let y = c.args.y in
    c.is_same_number.ensures
    ∙ ap (λ k. int_eq k.n c.in_rep-2.result.n) c.in_rep.ensures
    ∙ ap (λ k. int_eq (wrap c.wider-rep.result x.n) k.n) c.in_rep-2.ensures
    ∙ ap (λ r. int_eq (wrap r x.n) (wrap r y.n)) c.wider-rep.ensures
    ∙ sym (equal-Num x y)
