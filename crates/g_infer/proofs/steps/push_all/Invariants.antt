use Rattle.std.proofs.Common.{◌≡◌, ◌++◌, drop, map}
use Rattle.g_diagram_table.specs.Seen.{seen}
use Rattle.g_infer.specs.Steps.{seen_step, entries_forms}
use Rattle.g_infer.proofs.steps.push_all.Given as goal

abbrev pub invariant-loop-entry : goal.invariant-loop-entry
invariant-loop-entry l = map seen_step l.steps.items ++ entries_forms (map seen (drop l.entry-index l.entries)) ≡ map seen_step l.fn.steps.items ++ entries_forms (map seen l.entries)
