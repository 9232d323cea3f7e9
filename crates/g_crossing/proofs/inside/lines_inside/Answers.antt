use Rattle.std.proofs.Common.{◌++◌, ap, ◌∙◌}
use Rattle.g_border.specs.Readers.{Given}
use Rattle.g_crossing.specs.Kept.{inside_from}
use Rattle.g_crossing.proofs.InsideLemmas.{entered_lines}
use Rattle.g_crossing.proofs.inside.lines_inside.Goals as goal

pub returns : goal.returns
returns c = λ e is.
    c.in_ok-push_lines.ensures
    ∙ (ap (λ (g : Given). g ++ inside_from c.args.entering.now 0 c.args.first c.args.lines.now) c.new-given.ensures
    ∙ entered_lines c.args.first c.args.lines.now c.args.entering.now e is)
