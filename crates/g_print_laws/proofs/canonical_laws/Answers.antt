use Rattle.g_print_laws.proofs.ListingParts.{reads_back, alone, differ}
use Rattle.g_print_laws.proofs.canonical_laws.Goals as goal

pub returns : goal.returns
returns c = record { reads_back = reads_back; alone = alone; differ = differ }
