use Rattle.std.proofs.Common.{◌≡◌, drop, map}
use Rattle.std.specs.Prelude.{Some}
use Rattle.std.specs.List.{list_any}
use Rattle.g_frames.specs.Program.{Program}
use Rattle.g_frames.specs.Run.{from_to}
use Rattle.g_program.specs.Tables.{IsTableOf}
use Rattle.g_runs.specs.Scans.{fires_with}
use Rattle.g_runs.proofs.scan.find_clone.Given as goal

abbrev pub invariant-loop-clone : goal.invariant-loop-clone
invariant-loop-clone l =
    (p : Program) → IsTableOf p l.tables
    → list_any (fires_with p l.has_room l.state l.frame l.node) (map Some (drop l.clone (from_to 0 l.count))) ≡ list_any (fires_with p l.has_room l.state l.frame l.node) (map Some (from_to 0 l.count))
