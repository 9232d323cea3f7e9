use Rattle.std.proofs.Common.{◌≡◌, ◌++◌, map, drop}
use Rattle.std.specs.Option.{option_map, option_copied}
use Rattle.g_diagram.specs.Operands.{call_inputs}
use Rattle.g_diagram_ports.specs.Seen.{seen_operand}
use Rattle.g_diagram_ports.specs.Callees.{is_free_by}
use Rattle.g_diagram_ports.proofs.ports.push_inputs.Given as goal

abbrev pub invariant-loop-input : goal.invariant-loop-input
invariant-loop-input l =
    map seen_operand l.operands.items ++ call_inputs (is_free_by (option_map (λ v. v.items) (option_copied l.required))) l.input (drop l.input l.inputs)
    ≡ map seen_operand l.fn.operands.items ++ call_inputs (is_free_by (option_map (λ v. v.items) (option_copied l.required))) 0 l.inputs
