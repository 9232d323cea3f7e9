use Rattle.std.proofs.Common.{◌≡◌, drop}
use Rattle.g_typing.specs.Types.{wire_types}
use Rattle.g_rules_types.specs.Known.{types_of}
use Rattle.g_rules_types.specs.Calls.{after}
use Rattle.g_rules_types.proofs.rows.wire_types.Given as goal

abbrev pub invariant-loop-wire : goal.invariant-loop-wire
invariant-loop-wire l = after l.all.items (wire_types (types_of l.types) l.diagram (drop l.wire-index l.wires)) ≡ wire_types (types_of l.types) l.diagram l.wires
