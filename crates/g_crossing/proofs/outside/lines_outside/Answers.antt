use Rattle.std.proofs.Common.{◌++◌, ap, ◌∙◌}
use Rattle.g_border.specs.Readers.{Given}
use Rattle.g_crossing.specs.Kept.{outside_from}
use Rattle.g_crossing.proofs.OutsideLemmas.{left_lines}
use Rattle.g_crossing.proofs.outside.lines_outside.Goals as goal

pub returns : goal.returns
returns c = λ vi e table is.
    c.in_ok-push_lines.ensures vi table
    ∙ (ap (λ (g : Given). g ++ outside_from vi c.args.leaving.now 0 c.args.first c.args.lines.now) c.new-given.ensures
    ∙ left_lines c.args.first c.args.lines.now c.args.leaving.now vi e is)
