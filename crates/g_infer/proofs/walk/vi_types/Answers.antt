use Rattle.std.proofs.Common.{length, map}
use Rattle.std.proofs.lemmas.Result.{IfOk-weaker}
use Rattle.g_diagram_table.specs.Seen.{seen}
use Rattle.g_typing.proofs.Agreed.{Typed}
use Rattle.g_rules_types.specs.Known.{types_of}
use Rattle.g_rules_types.specs.Panels.{callees_in, objects_in}
use Rattle.g_infer.specs.Steps.{seen_step}
use Rattle.g_infer.specs.Walking.{HasWalked, steps_of}
use Rattle.g_infer.proofs.WalkLemmas.{order_found, can_start, at_end}
use Rattle.g_infer.proofs.walk.vi_types.Goals as goal

pub unreachable-requires : goal.unreachable-requires
unreachable-requires c =
    order_found (callees_in c.args.panels.now) (objects_in c.args.objects.now) c.args.panel.now (map seen c.args.entries.now)
    c.in_ok-steps.steps.items c.as_slice.result.now c.in_ok-graph.graph.items c.as_slice-2.result.now
    c.requires.objects c.requires.typable c.in_ok-steps.ensures c.as_slice.ensures.value c.in_ok-graph.ensures.length c.in_ok-graph.ensures.range c.in_ok-graph.ensures.edges
    c.as_slice-2.ensures.value c.in_ok-order.field-0 c.in_ok-order.ensures.none c.in-None.is

pub walk_steps-requires : goal.walk_steps-requires
walk_steps-requires c =
    can_start (callees_in c.args.panels.now) (objects_in c.args.objects.now) c.args.panel.now (map seen c.args.entries.now)
    c.in_ok-steps.steps.items c.as_slice.result.now c.in_ok-graph.graph.items c.as_slice-2.result.now
    c.requires.objects c.requires.typable c.in_ok-steps.ensures c.as_slice.ensures.value c.in_ok-graph.ensures.length c.in_ok-graph.ensures.range c.in_ok-graph.ensures.edges
    c.as_slice-2.ensures.value c.in_ok-order.field-0 c.in-Some.nodes c.in-Some.is c.in_ok-order.ensures.found
    c.as_slice-in-Some-2.result.now c.as_slice-in-Some-2.ensures.value c.as_slice-in-Some.result.now c.as_slice-in-Some.ensures.value

pub returns : goal.returns
returns c = IfOk-weaker c.walk_steps.result
    (λ types. HasWalked (steps_of (callees_in c.args.panels.now) (objects_in c.args.objects.now) (map seen_step c.as_slice-in-Some.result.now)) c.as_slice-in-Some-2.result.now (length c.as_slice-in-Some-2.result.now) (types_of types))
    (λ types. Typed (callees_in c.args.panels.now) c.args.panel.now (map seen c.args.entries.now) (types_of types))
    (λ types w.
    at_end (callees_in c.args.panels.now) (objects_in c.args.objects.now) c.args.panel.now (map seen c.args.entries.now)
    c.in_ok-steps.steps.items c.as_slice.result.now c.in_ok-graph.graph.items c.as_slice-2.result.now
    c.requires.objects c.requires.typable c.in_ok-steps.ensures c.as_slice.ensures.value c.in_ok-graph.ensures.length c.in_ok-graph.ensures.range c.in_ok-graph.ensures.edges
    c.as_slice-2.ensures.value c.in_ok-order.field-0 c.in-Some.nodes c.in-Some.is c.in_ok-order.ensures.found
    c.as_slice-in-Some-2.result.now c.as_slice-in-Some-2.ensures.value c.as_slice-in-Some.result.now c.as_slice-in-Some.ensures.value (types_of types) w)
    c.walk_steps.ensures
