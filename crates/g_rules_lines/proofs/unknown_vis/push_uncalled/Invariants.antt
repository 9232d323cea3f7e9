use Rattle.std.proofs.Common.{◌≡◌, ◌++◌, map, take}
use Rattle.g_diagram_table.specs.Seen.{seen}
use Rattle.g_rules_lines.specs.Spots.{break}
use Rattle.g_rules_lines.specs.UnknownVis.{uncalled}
use Rattle.g_rules_lines.specs.Names.{arity_in}
use Rattle.g_rules_lines.proofs.unknown_vis.push_uncalled.Given as goal

abbrev pub invariant-loop-entry : goal.invariant-loop-entry
invariant-loop-entry l = l.breaks.items ≡ l.fn.breaks.items ++ map (break l.vi 9) (uncalled (arity_in l.known) (map seen (take l.entry-index l.entries)))
