use Rattle.std.proofs.Common.{ℕ, List, ◌+◌, drop, ap, ◌∙◌}
use Rattle.std.proofs.lemmas.List.{drop_all}
use Rattle.g_infer.specs.declared.typed.NamedType.{NamedType}
use Rattle.g_infer.specs.Answer.{named_type as told_type}
use Rattle.g_run_tables.proofs.Kept.{all_scopes, drop_next, scopes_more}
use Rattle.g_run_tables.proofs.cases.case_scopes.Goals as goal

pub loop-case-preserved : goal.loop-case-preserved
loop-case-preserved c =
    let i : ℕ = c.loop-case.case-index in
    scopes_more c.args.cases.now (drop i c.args.cases.now) c.case-item.result (drop (i + 1) c.args.cases.now) c.loop-case.scopes.items c.push.new.self.items c.in_ok-case_scope.field-0
    (drop_next c.args.cases.now i c.case-item.result c.loop-case-test.true c.case-item.is) c.in_ok-push.ensures.items
    (λ name. c.in_ok-case_scope.ensures name ∙ ap (λ (ns : List NamedType). told_type ns name) c.as_slice.ensures) c.loop-case.invariant

pub returns : goal.returns
returns c =
    all_scopes c.args.cases.now (drop c.loop-case.case-index c.args.cases.now) c.loop-case.scopes.items (drop_all c.loop-case.case-index c.args.cases.now c.loop-case-test.false) c.loop-case.invariant
