use Rattle.std.proofs.Common.{refl}
use Rattle.std.specs.Prelude.{None}
use Rattle.g_frames.specs.Run.{firing}
use Rattle.g_firing.proofs.EnterLemmas.{unfired}
use Rattle.g_firing.proofs.nodes.fire_node.Goals as goal

pub returns : goal.returns
returns c p tables =
    unfired p c.args.state.now c.fire.new.state c.enter_node.new.state (firing c.args.frame c.args.node None) c.in_ok-fire.field-0 c.args.frame c.args.node c.in_ok-fired.fired
    (c.in_ok-fire.ensures p tables).0 c.if-branch.false (c.in_ok-fire.ensures p tables).1 (c.in_ok-fired.ensures p tables refl)
