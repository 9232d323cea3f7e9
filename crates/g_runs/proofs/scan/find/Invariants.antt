use Rattle.std.proofs.Common.{◌≡◌, drop}
use Rattle.std.specs.List.{list_any}
use Rattle.g_frames.specs.Program.{Program}
use Rattle.g_frames.specs.Run.{all_nodes, nodes_of_frames}
use Rattle.g_program.specs.Tables.{IsTableOf}
use Rattle.g_runs.specs.Scans.{goes_on}
use Rattle.g_runs.proofs.scan.find.Given as goal

abbrev pub invariant-loop-at : goal.invariant-loop-at
invariant-loop-at l =
    (p : Program) → IsTableOf p l.tables
    → list_any (goes_on p l.has_room l.state) (nodes_of_frames p l.at (drop l.at l.frames)) ≡ list_any (goes_on p l.has_room l.state) (all_nodes p l.state)
