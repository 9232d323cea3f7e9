use Rattle.g_wire_values.specs.Wires.{reader}
use Rattle.g_firing.proofs.StandingLemmas.{row_is}
use Rattle.g_firing.proofs.simple.applied.Goals as goal

pub apply-requires : goal.apply-requires
apply-requires c =
    row_is c.args.primitive.now (reader c.outer-wires.result) c.requires.0.outer c.args.inputs.now c.from_list-values.result c.in_ok-values_on.field-0 c.requires.1.1
    (c.outer-wires.ensures c.requires.0 c.requires.1.0) c.in_ok-values_on.ensures c.from_list-values.ensures
