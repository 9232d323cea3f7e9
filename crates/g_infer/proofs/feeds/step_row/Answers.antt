use Rattle.std.proofs.Common.{sym, subst}
use Rattle.std.specs.Prelude.{IfOk}
use Rattle.g_infer.specs.declared.steps.Step.{Step}
use Rattle.g_infer.specs.Feeding.{IsRowOf}
use Rattle.g_infer.specs.Steps.{seen_step}
use Rattle.g_infer.proofs.feeds.step_row.Goals as goal

pub returns-in-Branches : goal.returns-in-Branches
returns-in-Branches c =
    let P : Step → Type 0 = λ s. IfOk c.row_by_branch.result (λ row. IsRowOf c.args.readers.now (seen_step s) row.items) in
    subst P (sym c.in-Branches.is) c.row_by_branch.ensures
