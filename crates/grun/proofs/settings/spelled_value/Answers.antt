use Rattle.std.proofs.Common.{subst}
use Rattle.g_valtext.specs.Refused.{IsMemory}
use Rattle.grun.proofs.settings.spelled_value.Goals as goal

pub returns-in-Err-NotOfType : goal.returns-in-Err-NotOfType
returns-in-Err-NotOfType c v spells = subst IsMemory c.in-Err-NotOfType.field-0-is (c.in-Err-NotOfType.ensures.only v spells)
