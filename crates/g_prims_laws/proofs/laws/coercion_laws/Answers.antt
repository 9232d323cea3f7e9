use Rattle.g_prims_laws.proofs.Coercing.{coerces_plus, coerces_minus, coerces_times}
use Rattle.g_prims_laws.proofs.laws.coercion_laws.Goals as goal

pub returns-clause-sums : goal.returns-clause-sums
returns-clause-sums c = coerces_plus

pub returns-clause-differences : goal.returns-clause-differences
returns-clause-differences c = coerces_minus

pub returns-clause-products : goal.returns-clause-products
returns-clause-products c = coerces_times
