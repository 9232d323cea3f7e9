use Rattle.std.proofs.Common.{◌≡◌, ◌++◌, map, drop}
use Rattle.g_diagram_table.specs.Seen.{seen}
use Rattle.g_frames.specs.Program.{all_on}
use Rattle.g_frames.specs.State.{opened_by}
use Rattle.g_start.proofs.sources.push_all_opened.Given as goal

abbrev pub invariant-loop-entry : goal.invariant-loop-entry
invariant-loop-entry l =
    l.diagrams.items ++ all_on (λ e. opened_by e.kind) (map seen (drop l.entry-index l.entries)) ≡ l.fn.diagrams.items ++ all_on (λ e. opened_by e.kind) (map seen l.entries)
