use Rattle.std.proofs.Common.{◌++◌, [], ◌∷◌, ℕ, map, refl, sym, ap, ◌∙◌}
use Rattle.g_border.specs.Lines.{Leaving, leaving, lines_outside}
use Rattle.g_border.specs.Loops.{kept_registers}
use Rattle.g_border.specs.Readers.{Given}
use Rattle.g_wire_values.specs.Wires.{reader}
use Rattle.g_crossing.proofs.KeptLemmas.{none_kept}
use Rattle.g_crossing.proofs.outside.push_part.Goals as goal

pub returns : goal.returns
returns c = λ vi table.
    let lines = c.args.part.now.lines.now in
    let e : Leaving = leaving (reader c.args.outer.now) (reader c.args.inner.now ∷ []) (vi.types c.args.part.now.body) in
    c.in_ok-append.ensures.ok
    ∙ ap (λ (g : Given). c.args.given.now ++ g)
    (c.in_ok-lines.ensures vi e table
    (record {
      outer_is = refl;
      inner_is = ap (map reader) (sym c.from_ref.ensures.value);
      kept_is = λ l. none_kept (kept_registers c.in_ok-next.field-0 lines) l;
      types_are = λ name. refl;
    })
    ∙ ap (λ (n : ℕ). lines_outside e n lines) c.in_ok-next.ensures)
