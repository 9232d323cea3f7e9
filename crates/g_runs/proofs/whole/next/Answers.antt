use Rattle.std.proofs.Common.{refl}
use Rattle.g_runs.proofs.ScanLemmas.{rests}
use Rattle.g_runs.proofs.StepLemmas.{lasts_here}
use Rattle.g_runs.proofs.whole.next.Goals as goal

pub find_hinted-requires : goal.find_hinted-requires
find_hinted-requires c = let r = c.requires in (r.0, (r.1.0, lasts_here r.0 c.args.state.now r.1.1))

pub find-requires : goal.find-requires
find-requires c = let r = c.requires in (r.0, (r.1.0, lasts_here r.0 c.args.state.now r.1.1))

pub returns-in-None : goal.returns-in-None
returns-in-None c = λ p are.
    (rests p c.has_room-has_room.result c.args.state.now c.in_ok-firing-2.field-0 c.has_room-has_room.ensures (c.in_ok-firing-2.ensures p are) c.in-None.is, refl)
