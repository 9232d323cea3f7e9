use Rattle.g_listing_laws.proofs.ListingGiven.{reads_spelled}
use Rattle.g_listing_laws.proofs.spelled_laws.Goals as goal

pub returns : goal.returns
returns c = reads_spelled
