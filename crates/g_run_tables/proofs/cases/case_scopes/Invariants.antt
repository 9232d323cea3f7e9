use Rattle.std.proofs.Common.{◌++◌, List, drop}
use Rattle.g_vi_tables.specs.Types.{Scope}
use Rattle.g_run_tables.specs.Told.{AreScopes}
use Rattle.g_run_tables.proofs.cases.case_scopes.Given as goal

abbrev pub invariant-loop-case : goal.invariant-loop-case
invariant-loop-case l = (rest : List Scope) → AreScopes (drop l.case-index l.cases) rest → AreScopes l.cases (l.scopes.items ++ rest)
