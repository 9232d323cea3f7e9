use Rattle.std.proofs.Common.{◌≡◌, ◌+◌, ◌++◌, drop}
use Rattle.g_typing.specs.Assigned.{inputs_unlike}
use Rattle.g_typing.specs.Typing.{control_types}
use Rattle.g_rules_types.specs.Known.{types_of}
use Rattle.g_rules_types.proofs.assigned.push_inputs.Given as goal

abbrev pub invariant-loop-item : goal.invariant-loop-item
invariant-loop-item l =
    l.places.items ++ inputs_unlike (types_of l.types) l.vi l.line l.diagram (l.k + 1) (drop l.k l.inputs) (control_types (drop l.item-index l.panel))
    ≡ l.fn.places.items ++ inputs_unlike (types_of l.types) l.vi l.line l.diagram 1 l.inputs (control_types l.panel)
