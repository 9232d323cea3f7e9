use Rattle.std.proofs.Common.{refl}
use Rattle.std.proofs.lemmas.Result.{IfOk-weaker}
use Rattle.g_diagram_table.specs.Seen.{seen}
use Rattle.g_effects.specs.declared.plan.Plan.TheVariants as plan
use Rattle.g_plans.proofs.PlanLemmas.{of_plan}
use Rattle.g_plans.proofs.plans.carry_out.Goals as goal

pub returns-in-Effect : goal.returns-in-Effect
returns-in-Effect c =
    IfOk-weaker c.apply.result _ _
    (λ done does p room f vi e table _ _ e_is.
    of_plan p room f vi c.args.state.now c.apply.new.state c.args.firing e e c.args.plan (plan.Effect c.in-Effect.effect) done c.in-Effect.is refl (does p room f vi e table))
    c.apply.ensures

pub returns-in-Request : goal.returns-in-Request
returns-in-Request c =
    IfOk-weaker c.ask.result _ _
    (λ done does p room f vi e table _ _ e_is.
    of_plan p room f vi c.args.state.now c.ask.new.state c.args.firing e (seen c.args.entry.now) c.args.plan (plan.Request c.in-Request.request) done c.in-Request.is e_is (does p room f vi table))
    c.ask.ensures

pub returns-in-Placement : goal.returns-in-Placement
returns-in-Placement c =
    IfOk-weaker c.place.result _ _
    (λ done does p room f vi e table _ _ e_is.
    of_plan p room f vi c.args.state.now c.place.new.state c.args.firing e e c.args.plan (plan.Placement c.in-Placement.placement) done c.in-Placement.is refl (does p room f vi table))
    c.place.ensures
