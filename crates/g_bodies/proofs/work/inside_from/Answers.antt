use Rattle.std.proofs.Common.{refl}
use Rattle.std.proofs.lemmas.Result.{IfOk-weaker}
use Rattle.g_border.specs.Lines.{entering}
use Rattle.g_border.specs.Loops.{kept_registers}
use Rattle.g_wire_values.specs.Wires.{reader}
use Rattle.g_crossing.proofs.KeptLemmas.{none_kept}
use Rattle.g_bodies.proofs.work.inside_from.Goals as goal

pub returns : goal.returns
returns c =
    IfOk-weaker c.lines_inside.result _ _
    (λ g h.
    h (entering (reader c.args.outer))
    (record { outer_is = refl; before_is = refl; iteration_is = refl; kept_is = λ l. none_kept (kept_registers c.args.first c.args.lines.now) l; referred_is = refl }))
    c.lines_inside.ensures
