use Rattle.std.proofs.Common.{◌≤◌, ◌++◌, min, length, sym, ap, ◌∙◌, arith}
use Rattle.std.proofs.lemmas.List.{append-nil}
use Rattle.g_border.specs.Readers.{Given}
use Rattle.g_wire_values.specs.Wires.{reader}
use Rattle.g_crossing.proofs.OutsideLemmas.{parts_end}
use Rattle.g_crossing.proofs.outside.parts_outside.Goals as goal

pub returns : goal.returns
returns c = λ vi table.
    let ps = c.args.parts.now in
    let ws = c.args.inner.now in
    let far : min (length ps) (length ws) ≤ c.loop-i.i = omega (arith, c.loop-i-test.false, c.min-i-end.ensures) in
    sym (append-nil c.loop-i.given)
    ∙ (ap (λ (g : Given). c.loop-i.given ++ g) (sym (parts_end (reader c.args.outer.now) vi.types c.loop-i.i ps ws far))
    ∙ c.loop-i.invariant vi table)
