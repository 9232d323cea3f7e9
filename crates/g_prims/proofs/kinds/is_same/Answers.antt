use Rattle.g_prims_definitions.proofs.Sames.{decided}
use Rattle.g_prims.proofs.kinds.is_same.Goals as goal

pub returns : goal.returns
returns c = decided c.same.result c.args.a.now c.args.b.now c.same.ensures
