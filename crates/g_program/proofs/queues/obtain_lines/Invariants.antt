use Rattle.std.proofs.Common.{◌≡◌, ◌++◌, List, map, drop}
use Rattle.g_frames.specs.Program.{FlatVi}
use Rattle.g_program.specs.Queues.{is_in, obtained, seen_queue}
use Rattle.g_program.specs.Tables.{AreAllTables}
use Rattle.g_program.proofs.queues.obtain_lines.Given as goal

abbrev pub invariant-loop-vi : goal.invariant-loop-vi
invariant-loop-vi l =
    (flat : List FlatVi) → AreAllTables flat l.vis → map seen_queue l.queues.items ++ obtained (is_in l.reached) l.number (drop l.vi-index flat) ≡ obtained (is_in l.reached) 0 flat
