use Rattle.std.proofs.Common.{◌≡◌, ◌++◌, drop}
use Rattle.g_frames.specs.Program.{Program}
use Rattle.g_frames.specs.State.{all_sources}
use Rattle.g_program.specs.Tables.{IsTableOf}
use Rattle.g_start.proofs.sources.all_sources.Given as goal

abbrev pub invariant-loop-table : goal.invariant-loop-table
invariant-loop-table l = (p : Program) → IsTableOf p l.tables → l.sources.items ++ all_sources p l.number (drop l.table-index p.vis) ≡ all_sources p 0 p.vis
