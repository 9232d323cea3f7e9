use Rattle.g_print_laws.proofs.ListingParts.{one}
use Rattle.g_print_laws.proofs.one_hierarchy.Goals as goal

pub returns : goal.returns
returns c = one
