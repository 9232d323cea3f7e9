use Rattle.std.proofs.Common.{◌≡◌, length, subst}
use Rattle.g_frames.specs.Fire.{applied}
use Rattle.g_effects.specs.Effects.{seen}
use Rattle.g_states.specs.States.{progress_at}
use Rattle.g_plans.proofs.PlanLemmas.{put}
use Rattle.g_plans.proofs.plans.place.Goals as goal

pub returns : goal.returns
returns c =
    λ p room f vi table. put p room f vi c.args.state.now c.place.new.self c.apply.new.self c.args.firing c.args.placement c.in_ok-reply.reply
    c.requires c.in_ok-reply.ensures.ok
    (subst (λ x. c.apply.new.self ≡ applied p c.place.new.self c.args.firing (seen (progress_at p c.place.new.self.frames c.args.firing) (length c.place.new.self.frames) x))
    c.in_ok-effect.ensures (c.in_ok-apply.ensures p table))
