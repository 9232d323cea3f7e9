use Rattle.g_places.proofs.FitLemmas.{live_fits, null_fits}
use Rattle.g_places.proofs.plan.by_cell.Goals as goal

pub live_place-requires : goal.live_place-requires
live_place-requires c =
    (c.requires.0, (c.requires.1.0, live_fits c.requires.0 c.args.place.now c.args.cell.now c.in-Some.live c.in-Some.is c.requires.1.1))

pub null_place-requires : goal.null_place-requires
null_place-requires c =
    (c.requires.0, (c.requires.1.0, null_fits c.requires.0 c.args.place.now c.args.cell.now c.in-None.is c.requires.1.1))
