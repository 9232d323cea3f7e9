use Rattle.g_diagram_table.specs.Seen.{seen}
use Rattle.g_wire_values.specs.Wires.{reader}
use Rattle.g_requests.proofs.SharedLemmas.{by_inputs}
use Rattle.g_requests.proofs.shared.by_inputs.Goals as goal

pub returns : goal.returns
returns c = λ h is.
    by_inputs (seen c.args.entry.now) c.args.operation (reader c.outer-wires.result) h.outer c.args.inputs.now c.in_ok-first.first c.in_ok-second.second c.in_ok-plan.plan
    (c.outer-wires.ensures h is) c.in_ok-first.ensures c.in_ok-second.ensures c.in_ok-plan.ensures
