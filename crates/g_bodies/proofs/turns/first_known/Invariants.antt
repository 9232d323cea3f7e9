use Rattle.std.proofs.Common.{◌≡◌, drop}
use Rattle.g_border.specs.Bodies.{is_known}
use Rattle.g_frames.specs.Program.{FlatVi}
use Rattle.g_vi_tables.specs.Tables.{IsViTable}
use Rattle.g_bodies.specs.Known.{known_in}
use Rattle.g_bodies.specs.Steps.{step_of}
use Rattle.g_bodies.specs.Turns.{first_from}
use Rattle.g_bodies.proofs.turns.first_known.Given as goal

abbrev pub invariant-loop-at : goal.invariant-loop-at
invariant-loop-at l =
    (vi : FlatVi) → IsViTable vi l.table
    → first_from l.at (λ s. is_known (known_in vi l.known) (step_of vi.types s)) (drop l.at l.steps) ≡ first_from 0 (λ s. is_known (known_in vi l.known) (step_of vi.types s)) l.steps
