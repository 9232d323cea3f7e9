use Rattle.std.proofs.Common.{◌∙◌, sym, map}
use Rattle.std.proofs.lemmas.List.{length-map}
use Rattle.g_prims_definitions.specs.Comparisons as spec
use Rattle.g_prims_evaluation.proofs.Equalities.{all_same-lengths}
use Rattle.g_prims_evaluation.proofs.comparisons.+same.Goals as goal

pub all_same-returns-then-xs-ys : goal.all_same-returns-then-xs-ys
all_same-returns-then-xs-ys t c = all_same-lengths (map spec.same c.args.xs.now) c.args.ys.now (λ e. c.if-xs-ys.true (sym (length-map c.args.xs.now spec.same) ∙ e))
