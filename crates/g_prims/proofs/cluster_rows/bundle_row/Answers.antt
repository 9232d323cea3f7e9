use Rattle.std.proofs.Common.{sym}
use Rattle.g_prims.proofs.Bundles.{all_refused}
use Rattle.g_prims.proofs.cluster_rows.bundle_row.Goals as goal

pub returns-in-Some-clause-refused : goal.returns-in-Some-clause-refused
returns-in-Some-clause-refused c = all_refused c.args.ins.now c.in-Some.k (sym c.in-Some.ensures)
