use Rattle.std.proofs.Common.{◌≡◌, drop, map}
use Rattle.g_typing.specs.Literals as spec
use Rattle.g_rules_types.proofs.literals.+literal.Given as goal

abbrev pub invariant-are_values_of-loop-i : goal.invariant-are_values_of-loop-i
invariant-are_values_of-loop-i l = spec.are_values_of (map spec.is_value_of (drop l.i l.items)) l.ty ≡ spec.are_values_of (map spec.is_value_of l.items) l.ty

abbrev pub invariant-are_each-loop-i : goal.invariant-are_each-loop-i
invariant-are_each-loop-i l = spec.are_each (map spec.is_value_of (drop l.i l.items)) (drop l.i l.types) ≡ spec.are_each (map spec.is_value_of l.items) l.types
