use Rattle.std.proofs.Common.{◌≡◌, ◌++◌, drop, map}
use Rattle.g_diagram_table.specs.Seen.{seen_part}
use Rattle.g_border.specs.Lines as border
use Rattle.g_frames.specs.Program.{FlatVi}
use Rattle.g_vi_tables.specs.Tables.{IsViTable}
use Rattle.g_wire_values.specs.Wires.{reader}
use Rattle.g_crossing.proofs.outside.parts_outside.Given as goal

abbrev pub invariant-loop-i : goal.invariant-loop-i
invariant-loop-i l =
    (vi : FlatVi) → IsViTable vi l.table → l.given ++ border.parts_outside (reader l.outer) (map seen_part (drop l.i l.parts)) (map reader (drop l.i l.inner)) vi.types ≡ border.parts_outside (reader l.outer) (map seen_part l.parts) (map reader l.inner) vi.types
