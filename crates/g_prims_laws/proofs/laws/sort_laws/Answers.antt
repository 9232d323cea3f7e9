use Rattle.g_prims_laws.proofs.SortOrder.{sorts_numbers, sorts_texts}
use Rattle.g_prims_laws.proofs.laws.sort_laws.Goals as goal

pub returns-clause-numbers : goal.returns-clause-numbers
returns-clause-numbers c = sorts_numbers

pub returns-clause-texts : goal.returns-clause-texts
returns-clause-texts c = sorts_texts
