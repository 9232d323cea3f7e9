use Rattle.std.proofs.Common.{◌≡◌, ◌≤◌, drop}
use Rattle.g_prims.specs.Refusals.{first_out}
use Rattle.g_prims.proofs.cluster_rows.first_out.Given as goal

abbrev pub invariant-loop-i : goal.invariant-loop-i
invariant-loop-i l = (l.i ≤ 64) × (first_out 0 l.ins ≡ first_out l.i (drop l.i l.ins))
