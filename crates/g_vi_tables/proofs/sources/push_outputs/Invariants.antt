use Rattle.std.proofs.Common.{◌≡◌, ◌++◌, ◌+◌, map, drop}
use Rattle.g_vi_tables.specs.Sources.{seen, outputs_from}
use Rattle.g_vi_tables.proofs.sources.push_outputs.Given as goal

abbrev pub invariant-loop-wire : goal.invariant-loop-wire
invariant-loop-wire l = map seen l.sources.items ++ outputs_from l.diagram l.line l.operand (drop l.wire-index l.outputs) ≡ map seen l.fn.sources.items ++ outputs_from l.diagram l.line (l.inputs + 1) l.outputs
