use Rattle.std.proofs.Common.{arith, refl, sym}
use Rattle.std.specs.Prelude.{None}
use Rattle.g_border.specs.Lines.{entering}
use Rattle.g_structures.proofs.CrossingLemmas.{enters}
use Rattle.g_structures.proofs.cases.branch_opens.Goals as goal

pub returns : goal.returns
returns c h is =
    let given = c.in_ok-given.ensures (entering h.outer) (enters _ _ _ h.outer None 0 (sym (c.outer.ensures h is)) refl refl refl refl) in
    grind (arith, given, is.frame_is, c.in_ok-next.ensures, c.opens.ensures)
