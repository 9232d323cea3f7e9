use Rattle.std.proofs.Common.{◌≡◌, ℕ, map, ◌+◌}
use Rattle.std.proofs.Common.{Some as Just}
use Rattle.std.specs.List.{list_any}
use Rattle.g_frames.specs.Program.{Program}
use Rattle.g_frames.specs.Run.{from_to}
use Rattle.g_program.specs.Tables.{IsTableOf}
use Rattle.g_run_ends.specs.Verdicts.{fires}
use Rattle.g_run_ends.proofs.choices.can_take.Given as goal

abbrev pub invariant-loop-clone : goal.invariant-loop-clone
invariant-loop-clone l =
    (p : Program) → IsTableOf p l.tables → (more : ℕ)
    → list_any (fires p l.has_room l.state l.frame l.node) (map Just (from_to 0 (l.clone + more))) ≡ list_any (fires p l.has_room l.state l.frame l.node) (map Just (from_to l.clone more))
