use Rattle.g_listing_words.proofs.Named.{named}
use Rattle.g_listing_words.proofs.operations_are_named.Goals as goal

pub returns : goal.returns
returns c = named
