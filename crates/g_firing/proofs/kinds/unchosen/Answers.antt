use Rattle.std.proofs.Common.{ap}
use Rattle.g_diagram_table.specs.Seen.{seen, seen_kind}
use Rattle.g_firing.proofs.StandingLemmas.{place_needs}
use Rattle.g_firing.proofs.kinds.unchosen.Goals as goal

pub place_plan-requires : goal.place_plan-requires
place_plan-requires c = (
  c.requires.0,
  (
    c.requires.1.0,
    place_needs c.requires.0 (seen c.args.entry.now) c.in-InPlace.lines.now c.in-InPlace.body c.in-InPlace.finish (ap seen_kind c.in-InPlace.is) c.requires.1.1,
  ),
)
