use Rattle.std.proofs.Common.{◌≡◌, map, drop}
use Rattle.std.specs.List.{list_any}
use Rattle.g_diagram_table.specs.Seen.{seen}
use Rattle.g_frames.specs.Program.{Program}
use Rattle.g_program.specs.Tables.{IsTableOf}
use Rattle.g_runs.specs.Scans.{line_goes_on}
use Rattle.g_runs.proofs.scan.find_among.Given as goal

abbrev pub invariant-loop-entry : goal.invariant-loop-entry
invariant-loop-entry l =
    (p : Program) → IsTableOf p l.tables
    → list_any (line_goes_on p l.has_room l.state l.frame) (map seen (drop l.entry-index l.entries)) ≡ list_any (line_goes_on p l.has_room l.state l.frame) (map seen l.entries)
