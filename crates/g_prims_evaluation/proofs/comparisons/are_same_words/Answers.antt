use Rattle.std.proofs.Common.{◌∙◌, sym, map}
use Rattle.std.specs.Ordering.{int_eq}
use Rattle.std.proofs.lemmas.List.{length-map}
use Rattle.g_values.specs.Numbers.{number}
use Rattle.g_prims_evaluation.proofs.Equalities.{pointwise-lengths}
use Rattle.g_prims_evaluation.proofs.comparisons.are_same_words.Goals as goal

pub returns-then-xs-ys : goal.returns-then-xs-ys
returns-then-xs-ys c =
    pointwise-lengths int_eq (map (number c.args.a) c.args.xs.now) (map (number c.args.b) c.args.ys.now)
    (λ e. c.if-xs-ys.true (sym (length-map c.args.xs.now (number c.args.a)) ∙ e ∙ length-map c.args.ys.now (number c.args.b)))
