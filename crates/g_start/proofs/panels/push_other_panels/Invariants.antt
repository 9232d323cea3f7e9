use Rattle.std.proofs.Common.{◌≡◌, ◌++◌, drop}
use Rattle.g_frames.specs.Program.{Program}
use Rattle.g_program.specs.Tables.{IsTableOf}
use Rattle.g_start.specs.Panels.{default_panels}
use Rattle.g_start.proofs.panels.push_other_panels.Given as goal

abbrev pub invariant-loop-at : goal.invariant-loop-at
invariant-loop-at l =
    (p : Program) → IsTableOf p l.tables → l.objects.items ++ default_panels p (drop l.at l.spaces) ≡ l.fn.objects.items ++ default_panels p (drop 1 l.spaces)
