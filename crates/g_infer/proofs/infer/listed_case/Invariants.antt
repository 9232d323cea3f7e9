use Rattle.std.proofs.Common.{◌≡◌, ◌++◌, map}
use Rattle.g_infer.specs.Inferred.{told_name}
use Rattle.g_infer.proofs.infer.listed_case.Given as goal

abbrev pub invariant-loop-name : goal.invariant-loop-name
invariant-loop-name l = l.names.items ++ map told_name l.name-iterator ≡ map told_name l.fn.scope.entries
