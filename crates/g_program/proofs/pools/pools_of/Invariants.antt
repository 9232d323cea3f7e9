use Rattle.std.proofs.Common.{◌≡◌, ◌++◌, List, drop}
use Rattle.g_frames.specs.Program.{FlatVi}
use Rattle.g_program.specs.Pools.{pooled}
use Rattle.g_program.specs.Queues.{is_in}
use Rattle.g_program.specs.Tables.{AreAllTables}
use Rattle.g_program.proofs.pools.pools_of.Given as goal

abbrev pub invariant-loop-vi : goal.invariant-loop-vi
invariant-loop-vi l =
    (flat : List FlatVi) → AreAllTables flat l.vis → l.pools.items ++ pooled (is_in l.reached) l.main l.number (drop l.vi-index flat) ≡ pooled (is_in l.reached) l.main 0 flat
