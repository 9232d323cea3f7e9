use Rattle.g_typing_laws.proofs.Unbroken.{none_turns}
use Rattle.g_typing_laws.proofs.Typables.{typable}
use Rattle.g_typing_laws.proofs.typable_laws.Goals as goal

pub returns-clause-turns : goal.returns-clause-turns
returns-clause-turns c = none_turns

pub returns-clause-typable : goal.returns-clause-typable
returns-clause-typable c = typable
