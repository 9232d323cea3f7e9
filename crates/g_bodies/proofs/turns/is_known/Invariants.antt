use Rattle.std.proofs.Common.{◌≡◌, map, drop}
use Rattle.std.specs.List.{list_all}
use Rattle.g_border.specs.Readers.{has_value}
use Rattle.g_frames.specs.Program.{FlatVi}
use Rattle.g_vi_tables.specs.Tables.{IsViTable}
use Rattle.g_bodies.specs.Known.{known_in}
use Rattle.g_bodies.specs.Steps.{seen_read, reads_of}
use Rattle.g_bodies.proofs.turns.is_known.Given as goal

abbrev pub invariant-loop-read : goal.invariant-loop-read
invariant-loop-read l =
    (vi : FlatVi) → IsViTable vi l.table
    → list_all (λ w. has_value (known_in vi l.known w.0) w.1) (map seen_read (drop l.read-index l.step.reads.items))
    ≡ list_all (λ w. has_value (known_in vi l.known w.0) w.1) (reads_of l.step)
