use Rattle.g_typed_needs.proofs.Starts.{starts_needs}
use Rattle.g_typed_needs.proofs.Firings.{firings_need}
use Rattle.g_typed_needs.proofs.laws.needs_laws.Goals as goal

pub returns-clause-firings : goal.returns-clause-firings
returns-clause-firings c = firings_need

pub returns-clause-starts : goal.returns-clause-starts
returns-clause-starts c = starts_needs
