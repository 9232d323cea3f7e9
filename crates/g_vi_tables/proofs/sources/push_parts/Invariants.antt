use Rattle.std.proofs.Common.{◌≡◌, ◌++◌, map, drop}
use Rattle.g_diagram_table.specs.Seen as node
use Rattle.g_vi_tables.specs.Sources.{seen, parts_sources}
use Rattle.g_vi_tables.proofs.sources.push_parts.Given as goal

abbrev pub invariant-loop-part : goal.invariant-loop-part
invariant-loop-part l = map seen l.sources.items ++ parts_sources l.outside (map node.seen_part (drop l.part-index l.parts)) ≡ map seen l.fn.sources.items ++ parts_sources l.outside (map node.seen_part l.parts)
