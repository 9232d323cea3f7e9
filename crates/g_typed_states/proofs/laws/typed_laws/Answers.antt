use Rattle.g_typed_states.proofs.Stays.{stays_typed}
use Rattle.g_typed_states.proofs.Starts.{starts_typed, runs_typed}
use Rattle.g_typed_states.proofs.laws.typed_laws.Goals as goal

pub returns-clause-runs : goal.returns-clause-runs
returns-clause-runs c = runs_typed

pub returns-clause-starts : goal.returns-clause-starts
returns-clause-starts c = starts_typed

pub returns-clause-stays : goal.returns-clause-stays
returns-clause-stays c = stays_typed
