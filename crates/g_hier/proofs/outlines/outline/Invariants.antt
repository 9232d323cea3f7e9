use Rattle.std.proofs.Common.{◌≡◌, map, take}
use Rattle.g_hier.specs.Outlines.{calls_on}
use Rattle.g_diagram_table.specs.Seen.{seen}
use Rattle.g_hier.proofs.outlines.outline.Given as goal

abbrev pub invariant-loop-entry : goal.invariant-loop-entry
invariant-loop-entry l = l.calls.items ≡ calls_on l.vis (map seen (take l.entry-index l.entry-items))
