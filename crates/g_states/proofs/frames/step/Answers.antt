use Rattle.std.proofs.lemmas.Result.{on_ok_weaker}
use Rattle.g_frames.specs.State.{nodes_in}
use Rattle.g_states.proofs.StepLemmas.{step_at, step_nowhere}
use Rattle.g_states.proofs.frames.step.Goals as goal

pub returns-in-Some : goal.returns-in-Some
returns-in-Some c =
    on_ok_weaker c.step_node.result
    (λ is flat table. step_at c.args.line (nodes_in flat c.args.diagram) c.args.advance c.args.next c.args.nodes.now c.step_node.new.nodes c.in-Some.at (c.in-Some.ensures flat table) is)
    c.step_node.ensures

pub returns-in-None : goal.returns-in-None
returns-in-None c = λ flat table. step_nowhere c.args.line (nodes_in flat c.args.diagram) c.args.advance c.args.next c.args.nodes.now (c.in-None.ensures flat table)
