use Rattle.g_arrays.proofs.ActLemmas.{types_are}
use Rattle.g_arrays.proofs.act.with_one.Goals as goal

pub before_one-requires-clause-types : goal.before_one-requires-clause-types
before_one-requires-clause-types c = types_are c.args.primitive.now c.args.at c.args.kept c.args.other.now c.if-at-eq0.true c.requires.acts
