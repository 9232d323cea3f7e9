use Rattle.g_listing_words.specs.Operations.{operation_of}
use Rattle.g_listing_words.proofs.operation_of.Goals as goal

pub returns : goal.returns
unfolding operation_of
returns c = c.first_named.ensures
