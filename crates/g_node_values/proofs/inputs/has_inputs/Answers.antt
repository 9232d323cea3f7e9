use Rattle.std.proofs.Common.{sym, ◌∙◌}
use Rattle.g_diagram_table.specs.Seen as node
use Rattle.g_wire_values.specs.Wires.{reader}
use Rattle.g_node_values.proofs.InputLemmas.{inputs_by_kind}
use Rattle.g_node_values.proofs.inputs.has_inputs.Goals as goal

pub returns : goal.returns
returns c = c.has_kind.ensures ∙ sym (inputs_by_kind (reader c.args.wires.now) (node.seen c.args.entry.now))
