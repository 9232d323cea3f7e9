use Rattle.std.proofs.Common.{◌≡◌, ◌++◌, drop}
use Rattle.g_frames.specs.Program.{FlatVi}
use Rattle.g_vi_tables.specs.Tables.{IsViTable}
use Rattle.g_crossing.specs.Kept.{kept_from}
use Rattle.g_crossing.proofs.outside.push_kept_all.Given as goal

abbrev pub invariant-loop-tunnel : goal.invariant-loop-tunnel
invariant-loop-tunnel l =
    (vi : FlatVi) → IsViTable vi l.leaving.table.now → l.values ++ kept_from vi l.leaving l.register l.line (drop l.tunnel-index l.lines) ≡ l.fn.values ++ kept_from vi l.leaving 0 l.first l.lines
