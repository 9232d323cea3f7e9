use Rattle.g_listing_listable.proofs.Levels.{deeper_literals, deeper_nodes}
use Rattle.g_listing_listable.proofs.level_laws.Goals as goal

pub returns : goal.returns
returns c = record { literals = deeper_literals; nodes = deeper_nodes }
