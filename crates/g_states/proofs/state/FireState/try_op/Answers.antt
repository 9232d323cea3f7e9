use Rattle.std.proofs.Common.{◌≡◌, length, refl}
use Rattle.std.specs.Prelude.{Some, slice_get}
use Rattle.std.proofs.lemmas.Option.{slice_get_read}
use Rattle.g_states.proofs.ObjectLemmas.{still_waits}
use Rattle.g_states.proofs.state.FireState.try_op.Goals as goal

pub returns-clause-not_yet : goal.returns-clause-not_yet
returns-clause-not_yet c =
    still_waits _ _ c.self.view_is c.args.choice c.args.object c.args.operation c.in-Some.object.now c.try_op.new.self c.try_op.result
    (slice_get_read c.self.inside.objects.items (length c.self.inside.objects.items) c.args.object c.in-Some.object.now refl c.in-Some.ensures.item.3.0 c.in-Some.ensures.value)
    c.try_op.ensures.not_yet
