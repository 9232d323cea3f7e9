use Rattle.std.proofs.Common.{◌≡◌, length, refl}
use Rattle.std.proofs.lemmas.Option.{slice_get_read}
use Rattle.g_states.proofs.ObjectLemmas.{placed}
use Rattle.g_states.proofs.state.FireState.place.Goals as goal

pub returns-clause-ok : goal.returns-clause-ok
returns-clause-ok c =
    placed _ _ c.self.view_is c.args.object c.args.serial c.args.value c.args.outputs c.in_ok-reply.reply c.in-Some.object.now c.place.new.self
    (slice_get_read c.self.inside.objects.items (length c.self.inside.objects.items) c.args.object c.in-Some.object.now refl c.in-Some.ensures.item.3.0 c.in-Some.ensures.value)
    c.in_ok-reply.ensures.ok
