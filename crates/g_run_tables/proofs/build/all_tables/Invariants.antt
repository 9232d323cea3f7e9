use Rattle.std.proofs.Common.{◌++◌, List, drop}
use Rattle.g_diagram.specs.declared.hierarchy.Vi.{Vi}
use Rattle.g_frames.specs.Program.{flat_vis}
use Rattle.g_vi_tables.specs.declared.table.ViTable.{ViTable}
use Rattle.g_program.specs.Tables.{AreAllTables}
use Rattle.g_run_tables.specs.Types.{types_by}
use Rattle.g_run_tables.proofs.build.all_tables.Given as goal

abbrev pub invariant-loop-number : goal.invariant-loop-number
invariant-loop-number l =
    (all : List Vi) (rest : List ViTable) → AreAllTables (flat_vis all (types_by l.typed) l.number (drop l.number l.vis)) rest → AreAllTables (flat_vis all (types_by l.typed) 0 l.vis) (l.tables.items ++ rest)
