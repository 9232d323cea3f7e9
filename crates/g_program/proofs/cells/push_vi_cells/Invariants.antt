use Rattle.std.proofs.Common.{◌≡◌, ◌++◌, map, drop}
use Rattle.g_diagram_table.specs.Seen.{seen}
use Rattle.g_frames.specs.Program.{FlatVi, all_on, cell_on}
use Rattle.g_vi_tables.specs.Tables.{IsViTable}
use Rattle.g_program.proofs.cells.push_vi_cells.Given as goal

abbrev pub invariant-loop-entry : goal.invariant-loop-entry
invariant-loop-entry l =
    (vi : FlatVi) → IsViTable vi l.table → l.cells.items ++ all_on (λ e. cell_on vi.types l.space e e.kind) (map seen (drop l.entry-index l.entries))
    ≡ l.fn.cells.items ++ all_on (λ e. cell_on vi.types l.space e e.kind) (map seen l.entries)
