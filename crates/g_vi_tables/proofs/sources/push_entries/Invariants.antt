use Rattle.std.proofs.Common.{◌≡◌, ◌++◌, map, drop}
use Rattle.g_diagram_table.specs.Seen as node
use Rattle.g_vi_tables.specs.Sources.{seen, nodes_sources}
use Rattle.g_vi_tables.proofs.sources.push_entries.Given as goal

abbrev pub invariant-loop-entry : goal.invariant-loop-entry
invariant-loop-entry l = map seen l.sources.items ++ nodes_sources (map node.seen (drop l.entry-index l.entries)) ≡ map seen l.fn.sources.items ++ nodes_sources (map node.seen l.entries)
