use Rattle.std.proofs.Common.{subst}
use Rattle.std.specs.Prelude.{IfErr}
use Rattle.std.proofs.lemmas.Result.{IfErr-weaker}
use Rattle.g_prims_definitions.specs.Rows.{row}
use Rattle.g_prims.specs.Refusals.{IsBreak, IsRefusal}
use Rattle.g_prims.proofs.Breaks.{is_break}
use Rattle.g_prims.proofs.rows.type_row.Goals as goal

pub returns-clause-breaks : goal.returns-clause-breaks
returns-clause-breaks c =
    let p = c.args.primitive.now in
    let ts = c.args.ins.now in
    let refused = subst (λ us. IfErr c.row_of.result (IsRefusal (row p) us)) c.as_slice.ensures c.row_of.ensures.refused in
    IfErr-weaker c.row_of.result (IsRefusal (row p) ts) (IsBreak p ts) (λ e x. is_break p ts e x) refused
