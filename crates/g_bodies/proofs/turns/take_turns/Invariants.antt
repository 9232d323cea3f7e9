use Rattle.std.proofs.Common.{◌≡◌, ◌+◌, ℕ}
use Rattle.g_frames.specs.Program.{FlatVi}
use Rattle.g_vi_tables.specs.Tables.{IsViTable}
use Rattle.g_bodies.specs.Known.{found}
use Rattle.g_bodies.specs.Turns.{after, StepsFit}
use Rattle.g_bodies.proofs.turns.take_turns.Given as goal

abbrev pub invariant-loop : goal.invariant-loop
invariant-loop l = record {
  turns : (vi : FlatVi) → IsViTable vi l.table → (m : ℕ) → after vi l.steps.items (found l.known) m ≡ after vi l.initial.steps.items (found l.initial.known) (l.counter + m);
  fits : (vi : FlatVi) × (IsViTable vi l.table × StepsFit vi l.steps.items (found l.known));
}
