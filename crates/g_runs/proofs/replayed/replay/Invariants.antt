use Rattle.std.proofs.Common.{◌≡◌, drop}
use Rattle.g_frames.specs.Program.{Program}
use Rattle.g_frames.specs.State.{start}
use Rattle.g_frames.specs.Run.{after, after_from, first_refused}
use Rattle.g_program.specs.Tables.{IsTableOf}
use Rattle.g_runs.specs.Needs.{Lasts}
use Rattle.g_runs.proofs.replayed.replay.Given as goal

abbrev pub invariant-loop-at : goal.invariant-loop-at
invariant-loop-at l =
    ((p : Program) × (IsTableOf p l.tables × Lasts p l.state))
    × ((p : Program) → IsTableOf p l.tables → (after_from p (drop l.at l.trace) l.state ≡ after p l.fn.controls l.fn.limit l.trace) × (first_refused p l.at (drop l.at l.trace) l.state ≡ first_refused p 0 l.trace (start p l.fn.controls l.fn.limit)))
