use Rattle.g_prims_laws.proofs.SameValues.{equal_is_same}
use Rattle.g_prims_laws.proofs.laws.equality_laws.Goals as goal

pub returns : goal.returns
returns c = equal_is_same
