use Rattle.g_literals.proofs.TypedValues.{typed_literal}
use Rattle.g_literals.proofs.laws.literal_laws.Goals as goal

pub returns : goal.returns
returns c = typed_literal
