use Rattle.std.proofs.Common.{◌≡◌, ◌++◌, map, drop}
use Rattle.g_diagram_table.specs.Seen.{seen}
use Rattle.g_frames.specs.Program.{all_on, kept_on}
use Rattle.g_program.proofs.kept.push_entries.Given as goal

abbrev pub invariant-loop-entry : goal.invariant-loop-entry
invariant-loop-entry l =
    l.kept.items ++ all_on (λ e. kept_on l.space e e.kind) (map seen (drop l.entry-index l.entries)) ≡ l.fn.kept.items ++ all_on (λ e. kept_on l.space e e.kind) (map seen l.entries)
