use Rattle.std.proofs.Common.{◌≡◌, ◌++◌, map, drop}
use Rattle.g_border.specs.Cases as spec
use Rattle.g_diagram_table.specs.Seen.{seen_arm}
use Rattle.g_frames.specs.Program.{FlatVi}
use Rattle.g_vi_tables.specs.Tables.{IsViTable}
use Rattle.g_wire_values.specs.Wires.{reader}
use Rattle.g_crossing.proofs.cases.all_results.Given as goal

abbrev pub invariant-loop-tunnel : goal.invariant-loop-tunnel
invariant-loop-tunnel l =
    (vi : FlatVi) → IsViTable vi l.taken.table.now →
    l.given ++ spec.results_outside vi.types (map seen_arm l.taken.arms.now) (seen_arm l.taken.arm.now) (reader l.taken.inner.now) l.k l.line (drop l.tunnel-index l.lines)
    ≡ spec.results_outside vi.types (map seen_arm l.taken.arms.now) (seen_arm l.taken.arm.now) (reader l.taken.inner.now) 0 l.first l.lines
