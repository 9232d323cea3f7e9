use Rattle.std.proofs.Common.{map}
use Rattle.g_rules_types.specs.Known.{types_of, IsIndexed}
use Rattle.g_rules_types.specs.Panels.{callees_in, objects_in}
use Rattle.g_infer.specs.Steps.{seen_step}
use Rattle.g_infer.specs.Walking.{HasWalked, steps_of}
use Rattle.g_infer.proofs.walk.walk_steps.Given as goal

abbrev pub invariant-loop-node : goal.invariant-loop-node
invariant-loop-node l = record {
  walked : HasWalked (steps_of (callees_in l.panels) (objects_in l.objects) (map seen_step l.steps)) l.nodes l.node-index (types_of l.types);
  indexed : IsIndexed l.types;
}
