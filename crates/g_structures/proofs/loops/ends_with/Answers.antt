use Rattle.std.proofs.Common.{arith}
use Rattle.g_structures.proofs.CrossingLemmas.{keeps_are}
use Rattle.g_structures.proofs.loops.ends_with.Goals as goal

pub returns : goal.returns
returns c h out is table left =
    let given = c.in_ok-given.ensures h.vi out table left in
    let values = c.in_ok-values.ensures h.vi out table left in
    let keeps = keeps_are h out c.args.first c.args.lines.now in
    grind (arith, given, values, keeps, c.in_ok-effect.ensures h is, c.gives-effect.ensures)
