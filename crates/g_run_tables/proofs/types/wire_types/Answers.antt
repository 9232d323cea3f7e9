use Rattle.std.proofs.Common.{List, ap, ◌∙◌, subst}
use Rattle.g_infer.specs.declared.typed.BranchCases.{BranchCases}
use Rattle.g_infer.specs.declared.typed.CaseTypes.{CaseTypes}
use Rattle.g_infer.specs.declared.typed.SourceType.{SourceType}
use Rattle.g_infer.specs.Answer.{source_type, branch_cases}
use Rattle.g_run_tables.specs.Told.{AreScopes}
use Rattle.g_run_tables.proofs.Kept.{types_kept}
use Rattle.g_run_tables.proofs.types.wire_types.Goals as goal

pub returns : goal.returns
returns c =
    types_kept (record { own = c.in_ok-own.own; cases = c.in_ok-cases.cases; branches = c.in_ok-branches.branches }) c.args.told.now
    (λ d name. c.in_ok-own.ensures d name ∙ ap (λ (ss : List SourceType). source_type ss d name) c.as_slice.ensures)
    (subst (λ (cs : List CaseTypes). AreScopes cs c.in_ok-cases.cases.items) c.as_slice-2.ensures c.in_ok-cases.ensures)
    (λ d. c.in_ok-branches.ensures d ∙ ap (λ (bs : List BranchCases). branch_cases bs d) c.as_slice-3.ensures)
