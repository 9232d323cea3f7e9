use Rattle.std.proofs.Common.{List, [], ◌∷◌, ◌++◌, map, sym, ap, ◌∙◌}
use Rattle.std.proofs.lemmas.Result.{on_ok_weaker}
use Rattle.g_diagram.specs.declared.node.Tunnel.{Tunnel}
use Rattle.g_diagram.specs.Lines as lines
use Rattle.g_diagram.specs.Lines.{Wire}
use Rattle.g_border.specs.Bodies.{kind_steps}
use Rattle.g_diagram_table.specs.Seen.{seen, seen_arm, seen_kind}
use Rattle.g_bodies.specs.Steps.{step_of, first_step, results_step}
use Rattle.g_bodies.proofs.StepLemmas.{case_steps, place_steps, two_steps}
use Rattle.g_bodies.proofs.steps.push_steps.Goals as goal

pub returns-in-Const-clause-steps : goal.returns-in-Const-clause-steps
returns-in-Const-clause-steps c =
    on_ok_weaker c.push_const.result
    (λ h types. h types c.in-Const.out.now ∙ ap (λ k. map (step_of types) c.args.steps.now.items ++ kind_steps types (seen c.args.entry.now) (seen_kind k)) (sym c.in-Const.is))
    c.push_const.ensures.steps

pub returns-in-Const-clause-fits : goal.returns-in-Const-clause-fits
returns-in-Const-clause-fits c = on_ok_weaker c.push_const.result (λ h r fits old. h r old) c.push_const.ensures.fits

pub returns-in-Apply-clause-steps : goal.returns-in-Apply-clause-steps
returns-in-Apply-clause-steps c =
    on_ok_weaker c.push_apply.result
    (λ h types. h types c.in-Apply.outputs.now ∙ ap (λ k. map (step_of types) c.args.steps.now.items ++ kind_steps types (seen c.args.entry.now) (seen_kind k)) (sym c.in-Apply.is))
    c.push_apply.ensures.steps

pub returns-in-Apply-clause-fits : goal.returns-in-Apply-clause-fits
returns-in-Apply-clause-fits c =
    on_ok_weaker c.push_apply.result (λ h r fits old. h r (fits c.in-Apply.primitive c.in-Apply.inputs.now c.in-Apply.outputs.now (ap seen_kind c.in-Apply.is)) old) c.push_apply.ensures.fits

pub returns-in_ok-push_first-in-Case-clause-steps : goal.returns-in_ok-push_first-in-Case-clause-steps
returns-in_ok-push_first-in-Case-clause-steps c =
    on_ok_weaker c.push_results.result
    (λ h types.
    let e : lines.Entry = seen c.args.entry.now in
    let selector : Wire = c.in-Case.selector.now in
    let ts : List Tunnel = c.in-Case.lines.now in
    two_steps (map (step_of types) c.args.steps.now.items) (map (step_of types) c.push_first.new.steps.items) (map (step_of types) c.push_results.new.steps.items) _ _
    (kind_steps types e (seen_kind c.args.entry.now.kind)) (c.in_ok-push_first-in-Case.ensures.steps types) (h types)
    (ap (λ arms. first_step e (selector ∷ []) ts ∷ results_step types e selector ts (map seen_arm arms) ∷ []) c.as_slice.ensures.value
    ∙ case_steps types e selector ts (map seen_arm c.in-Case.arms.items) (ap seen_kind c.in-Case.is) ∙ ap (λ k. kind_steps types e (seen_kind k)) (sym c.in-Case.is)))
    c.push_results.ensures.steps

pub returns-in_ok-push_first-in-Case-clause-fits : goal.returns-in_ok-push_first-in-Case-clause-fits
returns-in_ok-push_first-in-Case-clause-fits c = on_ok_weaker c.push_results.result (λ h r fits old. h r (c.in_ok-push_first-in-Case.ensures.fits r old)) c.push_results.ensures.fits

pub returns-in_ok-push_first-in-InPlace-clause-steps : goal.returns-in_ok-push_first-in-InPlace-clause-steps
returns-in_ok-push_first-in-InPlace-clause-steps c =
    on_ok_weaker c.push_outputs.result
    (λ h types.
    let e : lines.Entry = seen c.args.entry.now in
    two_steps (map (step_of types) c.args.steps.now.items) (map (step_of types) c.push_first-in-InPlace.new.steps.items) (map (step_of types) c.push_outputs.new.steps.items) _ _
    (kind_steps types e (seen_kind c.args.entry.now.kind)) (c.in_ok-push_first-in-InPlace.ensures.steps types) (h types)
    (place_steps types e c.in-InPlace.lines.now c.in-InPlace.body c.in-InPlace.finish (ap seen_kind c.in-InPlace.is) ∙ ap (λ k. kind_steps types e (seen_kind k)) (sym c.in-InPlace.is)))
    c.push_outputs.ensures.steps

pub returns-in_ok-push_first-in-InPlace-clause-fits : goal.returns-in_ok-push_first-in-InPlace-clause-fits
returns-in_ok-push_first-in-InPlace-clause-fits c = on_ok_weaker c.push_outputs.result (λ h r fits old. h r (c.in_ok-push_first-in-InPlace.ensures.fits r old)) c.push_outputs.ensures.fits
