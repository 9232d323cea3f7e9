use Rattle.g_listing_listable.proofs.ListedExactly.{exactly, canonical}
use Rattle.g_listing_listable.proofs.listed_laws.Goals as goal

pub returns : goal.returns
returns c = record { exactly = exactly; canonical = canonical }
