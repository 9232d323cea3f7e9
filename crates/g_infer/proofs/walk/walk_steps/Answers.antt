use Rattle.std.proofs.lemmas.Option.{slice_get-get_or}
use Rattle.g_rules_types.specs.Known.{types_of}
use Rattle.g_rules_types.specs.Panels.{callees_in, objects_in}
use Rattle.g_infer.proofs.WalkLemmas.{index_within, fresh_next, walk_next}
use Rattle.g_infer.proofs.walk.walk_steps.Goals as goal

pub step_at-step-requires : goal.step_at-step-requires
step_at-step-requires c = index_within (callees_in c.args.panels.now) (objects_in c.args.objects.now) c.args.steps.now c.args.nodes.now c.requires c.loop-node.node-index _
    (slice_get-get_or c.args.nodes.now c.loop-node.node-index 0 c.loop-node-test.true)

pub take_step-requires-clause-fresh : goal.take_step-requires-clause-fresh
take_step-requires-clause-fresh c = fresh_next (callees_in c.args.panels.now) (objects_in c.args.objects.now) c.args.steps.now c.args.nodes.now c.requires c.loop-node.node-index _
    (slice_get-get_or c.args.nodes.now c.loop-node.node-index 0 c.loop-node-test.true)
    (types_of c.loop-node.types) _ c.step_at-step.ensures c.loop-node.invariant.walked

pub loop-node-preserved : goal.loop-node-preserved
loop-node-preserved c = record {
  walked = walk_next (callees_in c.args.panels.now) (objects_in c.args.objects.now) c.args.steps.now c.args.nodes.now c.requires c.loop-node.node-index _
      (slice_get-get_or c.args.nodes.now c.loop-node.node-index 0 c.loop-node-test.true)
      (types_of c.loop-node.types) (types_of c.take_step.new.types) _ c.step_at-step.ensures c.in_ok-take_step.ensures.adds c.loop-node.invariant.walked;
  indexed = c.in_ok-take_step.ensures.indexed;
}
