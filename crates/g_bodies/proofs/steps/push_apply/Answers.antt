use Rattle.std.proofs.Common.{◌++◌, map, ap, ◌∙◌}
use Rattle.g_border.specs.Bodies.{in_diagram}
use Rattle.g_bodies.specs.Steps.{seen_read}
use Rattle.g_bodies.proofs.StepLemmas.{pushed, apply_fits}
use Rattle.g_bodies.proofs.steps.push_apply.Goals as goal

pub returns-clause-fits : goal.returns-clause-fits
returns-clause-fits c = λ r inputs fits.
    pushed r _ _ _ c.in_ok-push.ensures.items
    (λ n h.
    inputs n
    (apply_fits r c.args.entry.now.diagram c.args.inputs.now (map seen_read c.push_wires.new.reads.items)
    (c.in_ok-push_wires.ensures ∙ ap (λ rs. map seen_read rs ++ in_diagram c.args.entry.now.diagram c.args.inputs.now) c.new-reads.ensures.items) n h))
    fits
