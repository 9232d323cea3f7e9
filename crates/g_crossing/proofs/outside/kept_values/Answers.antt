use Rattle.std.proofs.Common.{◌++◌, ℕ, List, ap, ◌∙◌}
use Rattle.g_values.specs.declared.value.Value.{Value}
use Rattle.g_crossing.specs.Kept.{kept_from}
use Rattle.g_crossing.proofs.OutsideLemmas.{left_kept}
use Rattle.g_crossing.proofs.outside.kept_values.Goals as goal

pub returns : goal.returns
returns c = λ vi e table is.
    c.in_ok-push_kept_all.ensures vi table
    ∙ (ap (λ (g : List (ℕ × Value)). g ++ kept_from vi c.args.leaving.now 0 c.args.first c.args.lines.now) c.new-values.ensures
    ∙ left_kept c.args.first c.args.lines.now c.args.leaving.now vi e is)
