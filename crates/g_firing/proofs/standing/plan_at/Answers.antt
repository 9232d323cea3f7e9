use Rattle.std.proofs.Common.{◌∙◌, ap, sym}
use Rattle.std.specs.Option.{option_and_then}
use Rattle.g_effects.specs.Requests.{planned}
use Rattle.g_diagram_table.specs.Seen.{seen}
use Rattle.g_frames.specs.State.{nodes_in}
use Rattle.g_frames.specs.Fire as step
use Rattle.g_firing.proofs.StandingLemmas.{needs_here, plan_here, no_plan_here}
use Rattle.g_firing.proofs.standing.plan_at.Goals as goal

pub node_plan-requires : goal.node_plan-requires
node_plan-requires c =
    needs_here c.requires.0 (record { tables = c.args.tables; state = c.args.state; frame = c.in-Some.frame; table = c.in-Some-vi.table; has_room = c.args.has_room })
    c.args.firing.frame c.args.firing.node (seen c.in-Some-node_in.entry.now) c.in-Some-node_in.progress.now c.requires.1.0 c.requires.1.1 c.in-Some.ensures
    (c.in-Some-vi.ensures c.requires.0 c.requires.1.0)
    (λ vi is. c.in-Some-node_in.ensures vi is ∙ ap (λ l. step.node_on l (nodes_in vi c.in-Some.frame.now.diagram) c.in-Some.frame.now.nodes) c.in_ok-line.ensures)

pub returns-in-Some-2-clause-plan : goal.returns-in-Some-2-clause-plan
returns-in-Some-2-clause-plan c p tables =
    plan_here p (record { tables = c.args.tables; state = c.args.state; frame = c.in-Some.frame; table = c.in-Some-vi.table; has_room = c.args.has_room })
    c.args.firing (seen c.in-Some-node_in.entry.now) c.in-Some-node_in.progress.now c.in-Some-2.plan tables c.in-Some.ensures
    (c.in-Some-vi.ensures p tables)
    (λ vi is. c.in-Some-node_in.ensures vi is ∙ ap (λ l. step.node_on l (nodes_in vi c.in-Some.frame.now.diagram) c.in-Some.frame.now.nodes) c.in_ok-line.ensures)
    (λ h at. sym (ap (option_and_then (planned h (seen c.in-Some-node_in.entry.now) c.in-Some-node_in.progress.now)) c.in-Some-2.is) ∙ c.in_ok-plan.ensures.plan h at)

pub returns-in-None-clause-plan : goal.returns-in-None-clause-plan
returns-in-None-clause-plan c p tables =
    no_plan_here p (record { tables = c.args.tables; state = c.args.state; frame = c.in-Some.frame; table = c.in-Some-vi.table; has_room = c.args.has_room })
    c.args.firing (seen c.in-Some-node_in.entry.now) c.in-Some-node_in.progress.now tables c.in-Some.ensures
    (c.in-Some-vi.ensures p tables)
    (λ vi is. c.in-Some-node_in.ensures vi is ∙ ap (λ l. step.node_on l (nodes_in vi c.in-Some.frame.now.diagram) c.in-Some.frame.now.nodes) c.in_ok-line.ensures)
    (λ h at. sym (ap (option_and_then (planned h (seen c.in-Some-node_in.entry.now) c.in-Some-node_in.progress.now)) c.in-None.is) ∙ c.in_ok-plan.ensures.plan h at)
