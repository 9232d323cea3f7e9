use Rattle.std.proofs.Common.{◌≡◌, ◌++◌, ◌+◌, drop}
use Rattle.g_node_values.specs.Outputs.{outputs_from}
use Rattle.g_node_values.proofs.outputs.push_outputs.Given as goal

abbrev pub invariant-loop-wire : goal.invariant-loop-wire
invariant-loop-wire l = l.places.items ++ outputs_from l.line l.operand (drop l._wire-index l.outputs) ≡ l.fn.places.items ++ outputs_from l.line (l.inputs + 1) l.outputs
