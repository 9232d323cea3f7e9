use Rattle.std.proofs.Common.{◌≡◌, drop}
use Rattle.g_vi_tables.specs.Types as spec
use Rattle.g_vi_tables.proofs.types.first_type.Given as goal

abbrev pub invariant-loop-number : goal.invariant-loop-number
invariant-loop-number l = spec.first_type l.scopes (drop l.number-index l.cases) l.name ≡ spec.first_type l.scopes l.cases l.name
