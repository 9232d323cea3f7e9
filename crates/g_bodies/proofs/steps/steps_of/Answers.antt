use Rattle.std.proofs.Common.{◌++◌, map, sym, ap, ◌∙◌, arith}
use Rattle.std.proofs.lemmas.List.{append-nil}
use Rattle.g_border.specs.Bodies as bodies
use Rattle.g_diagram_table.specs.Seen.{seen}
use Rattle.g_bodies.specs.Steps.{step_of}
use Rattle.g_bodies.proofs.StepLemmas.{drop_all, entries_more, fits_more}
use Rattle.g_bodies.proofs.steps.steps_of.Goals as goal

pub loop-entry-preserved : goal.loop-entry-preserved
loop-entry-preserved c =
    record {
      steps = λ types.
          entries_more types c.args.entries.now c.loop-entry.entry-index c.entry-item.result c.entry-item.result _ _ _ c.loop-entry-test.true c.entry-item.is (c.in_ok-push_steps.ensures.steps types)
          (c.loop-entry.invariant.steps types);
      fits = λ r nodes.
          fits_more r c.args.entries.now c.loop-entry.entry-index c.entry-item.result c.entry-item.result _ _ c.loop-entry-test.true c.entry-item.is (c.in_ok-push_steps.ensures.fits r)
          (c.loop-entry.invariant.fits r nodes);
    }

pub returns-clause-steps : goal.returns-clause-steps
returns-clause-steps c = λ types.
    let over = c.loop-entry-test.false in
    sym (append-nil (map (step_of types) c.loop-entry.steps.items))
    ∙ ap (λ es. map (step_of types) c.loop-entry.steps.items ++ bodies.steps_of types (map seen es)) (sym (drop_all c.loop-entry.entry-index c.args.entries.now (omega (arith, over))))
    ∙ c.loop-entry.invariant.steps types

pub returns-clause-fits : goal.returns-clause-fits
returns-clause-fits c = λ r nodes. (c.loop-entry.invariant.fits r nodes).0
