use Rattle.g_reference_laws.proofs.Outputs.{outputs_hold_the_inputs}
use Rattle.g_reference_laws.proofs.Plain.{coerced_holds_the_same, defaults_hold_none}
use Rattle.g_reference_laws.proofs.PlainLiterals.{literals_hold_none}
use Rattle.g_reference_laws.proofs.laws.reference_laws.Goals as goal

pub returns-clause-outputs : goal.returns-clause-outputs
returns-clause-outputs c = outputs_hold_the_inputs

pub returns-clause-coerced : goal.returns-clause-coerced
returns-clause-coerced c = coerced_holds_the_same

pub returns-clause-defaults : goal.returns-clause-defaults
returns-clause-defaults c = defaults_hold_none

pub returns-clause-literals : goal.returns-clause-literals
returns-clause-literals c = literals_hold_none
