use Rattle.std.proofs.Common.{◌∙◌, ap, sym}
use Rattle.g_diagram_table.specs.Seen.{seen}
use Rattle.g_frames.specs.Fire as step
use Rattle.g_wire_values.specs.Wires.{reader}
use Rattle.g_firing.proofs.StandingLemmas.{planned_here, fits_here}
use Rattle.g_firing.proofs.standing.node_plan.Goals as goal

pub kind_plan-requires : goal.kind_plan-requires
kind_plan-requires c = (
  c.requires.0,
  (
    c.requires.1.0,
    c.requires.1.1
        (sym (ap (λ r. step.has_inputs r (seen c.args.entry.now)) (c.outer-wires.ensures c.requires.0 c.requires.1.0)) ∙ (sym c.has_inputs.ensures ∙ c.if-has_inputs.true)),
  ),
)

pub returns-then-has_inputs-clause-plan : goal.returns-then-has_inputs-clause-plan
returns-then-has_inputs-clause-plan c h is =
    planned_here c.args.here.now c.requires.0 h (reader c.outer-wires.result) c.args.choice (seen c.args.entry.now) c.args.progress.now c.in_ok-plan.plan c.requires.1.0 is
    (c.requires.1.1
    (sym (ap (λ r. step.has_inputs r (seen c.args.entry.now)) (c.outer-wires.ensures c.requires.0 c.requires.1.0)) ∙ (sym c.has_inputs.ensures ∙ c.if-has_inputs.true)))
    (c.outer-wires.ensures c.requires.0 c.requires.1.0) (c.outer-wires.ensures h is) (sym c.is_done.ensures ∙ c.if-is_done.false) (sym c.has_inputs.ensures ∙ c.if-has_inputs.true)
    (c.in_ok-plan.ensures h is)

pub returns-then-has_inputs-clause-fits : goal.returns-then-has_inputs-clause-fits
returns-then-has_inputs-clause-fits c =
    fits_here c.args.here.now c.requires.0 (seen c.args.entry.now) c.args.choice c.args.progress.now c.in_ok-plan.plan c.plan_laws.ensures.fits c.requires.1.0
    (c.requires.1.1
    (sym (ap (λ r. step.has_inputs r (seen c.args.entry.now)) (c.outer-wires.ensures c.requires.0 c.requires.1.0)) ∙ (sym c.has_inputs.ensures ∙ c.if-has_inputs.true)))
    (c.in_ok-plan.ensures c.requires.0 c.requires.1.0)
