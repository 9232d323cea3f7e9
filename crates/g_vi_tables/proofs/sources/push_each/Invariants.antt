use Rattle.std.proofs.Common.{◌≡◌, ◌++◌, map, drop}
use Rattle.g_vi_tables.specs.Sources.{seen, in_each}
use Rattle.g_vi_tables.proofs.sources.push_each.Given as goal

abbrev pub invariant-loop-diagram : goal.invariant-loop-diagram
invariant-loop-diagram l = map seen l.sources.items ++ in_each (drop l.diagram-index l.diagrams) l.line l.operand l.wire ≡ map seen l.fn.sources.items ++ in_each l.diagrams l.line l.operand l.wire
