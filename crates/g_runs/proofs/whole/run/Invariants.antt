use Rattle.std.proofs.Common.{◌≡◌, length, Some}
use Rattle.g_frames.specs.Program.{Program}
use Rattle.g_frames.specs.Run.{after}
use Rattle.g_program.specs.Tables.{IsTableOf}
use Rattle.g_runs.specs.Needs.{Lasts}
use Rattle.g_runs.proofs.whole.run.Given as goal

abbrev pub invariant-loop : goal.invariant-loop
invariant-loop l =
    ((p : Program) × (IsTableOf p l.tables × Lasts p l.state)) × (((p : Program) → IsTableOf p l.tables → after p l.fn.controls l.fn.limit l.trace.items ≡ Some l.state) × (length l.trace.items ≡ l.counter))
