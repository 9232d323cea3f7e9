use Rattle.std.proofs.Common.{◌≡◌, ◌++◌, drop, map}
use Rattle.g_typing.proofs.Local.{at_diagram}
use Rattle.g_infer.specs.Reads.{all_named, seen_read}
use Rattle.g_infer.proofs.reads.push_each.Given as goal

abbrev pub invariant-loop-wire : goal.invariant-loop-wire
invariant-loop-wire l = map seen_read l.reads.items ++ all_named (at_diagram l.diagram (drop l.wire-index l.wires)) ≡ map seen_read l.fn.reads.items ++ all_named (at_diagram l.diagram l.wires)
