use Rattle.g_prims_laws.proofs.Counts.{fits_row}
use Rattle.g_prims_laws.proofs.laws.count_laws.Goals as goal

pub returns : goal.returns
returns c = fits_row
