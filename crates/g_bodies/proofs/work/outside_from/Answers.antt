use Rattle.std.proofs.Common.{map, refl}
use Rattle.std.proofs.lemmas.Result.{IfOk-weaker}
use Rattle.g_border.specs.Lines.{leaving}
use Rattle.g_border.specs.Loops.{kept_registers}
use Rattle.g_wire_values.specs.Wires.{reader}
use Rattle.g_crossing.proofs.KeptLemmas.{none_kept}
use Rattle.g_bodies.proofs.work.outside_from.Goals as goal

pub returns : goal.returns
returns c =
    IfOk-weaker c.lines_outside.result _ _
    (λ g h vi is.
    h vi (leaving (reader c.args.outer) (map reader c.args.inner.now) (vi.types c.args.body)) is
    (record { outer_is = refl; inner_is = refl; kept_is = λ l. none_kept (kept_registers c.args.first c.args.lines.now) l; types_are = λ name. refl }))
    c.lines_outside.ensures
