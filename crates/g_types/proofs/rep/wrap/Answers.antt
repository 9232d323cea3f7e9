use Rattle.std.proofs.Common.{rules}
use Rattle.g_types.proofs.Congruences.{congruent_to}
use Rattle.g_types.proofs.rep.wrap.Goals as goal

pub returns-then-low-size-clause-congruent : goal.returns-then-low-size-clause-congruent
returns-then-low-size-clause-congruent c = congruent_to c.args.rep c.args.n _ (search rules)

pub returns-else-is_signed-clause-congruent : goal.returns-else-is_signed-clause-congruent
returns-else-is_signed-clause-congruent c = congruent_to c.args.rep c.args.n _ (search rules)
