use Rattle.g_prims_definitions.proofs.BreakingOff.{breaks_off, place_is}
use Rattle.g_prims_definitions.specs.Begins.{BreaksOff}
use Rattle.std.proofs.Common.{subst}
use Rattle.g_prims_laws.proofs.laws.refusal_laws.Goals as goal

pub returns : goal.returns
returns c = λ p ts k. (λ x. subst (BreaksOff p ts) x.1 (breaks_off p ts x.0), λ b. (b.no_row, place_is p ts k b))
