use Rattle.std.proofs.Common.{arith, refl, sym}
use Rattle.std.specs.Option.{option_map}
use Rattle.g_border.specs.Lines.{entering}
use Rattle.g_wire_values.specs.Wires.{reader}
use Rattle.g_structures.proofs.CrossingLemmas.{enters}
use Rattle.g_structures.proofs.sequences.part_opens.Goals as goal

pub returns : goal.returns
returns c h is =
    let given = c.in_ok-given.ensures (record (entering h.outer) { before = option_map reader c.args.before; iteration = c.args.done })
    (enters _ _ _ h.outer (option_map reader c.args.before) c.args.done (sym (c.outer.ensures h is)) refl refl refl refl) in
    grind (arith, given, is.frame_is, c.in_ok-next.ensures, c.opens.ensures)
