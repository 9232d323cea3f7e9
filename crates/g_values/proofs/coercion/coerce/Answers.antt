use Rattle.std.proofs.Common.{sym, subst}
use Rattle.g_values.specs.Typed.{IsOfType}
use Rattle.g_values.proofs.CoercedValues.{coerced-of_type}
use Rattle.g_values.proofs.coercion.coerce.Goals as goal

pub returns-clause-proper : goal.returns-clause-proper
returns-clause-proper c proper assignable = subst (IsOfType c.args.to.now) (sym c.coerced_value.ensures) (coerced-of_type c.args.v c.args.to.now proper assignable)
