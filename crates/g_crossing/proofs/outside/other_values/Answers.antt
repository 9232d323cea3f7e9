use Rattle.std.proofs.Common.{◌++◌, List, ap, ◌∙◌}
use Rattle.g_values.specs.declared.value.Value.{Value}
use Rattle.g_crossing.specs.Kept.{values_from}
use Rattle.g_crossing.proofs.OutsideLemmas.{left_values}
use Rattle.g_crossing.proofs.outside.other_values.Goals as goal

pub returns : goal.returns
returns c = λ vi e table is.
    c.in_ok-push_others.ensures vi table
    ∙ (ap (λ (g : List Value). g ++ values_from vi c.args.leaving.now 0 c.args.lines.now) c.new-values.ensures
    ∙ left_values c.args.first c.args.lines.now c.args.leaving.now vi e is)
