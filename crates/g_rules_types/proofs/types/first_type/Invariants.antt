use Rattle.std.proofs.Common.{◌≡◌, drop}
use Rattle.g_rules_types.specs.Known.{first_type}
use Rattle.g_rules_types.proofs.types.first_type.Given as goal

abbrev pub invariant-loop-number : goal.invariant-loop-number
invariant-loop-number l = first_type l.scopes (drop l.number-index l.cases) l.name ≡ first_type l.scopes l.cases l.name
