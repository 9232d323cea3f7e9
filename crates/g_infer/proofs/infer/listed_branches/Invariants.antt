use Rattle.std.proofs.Common.{◌≡◌, ◌++◌, map}
use Rattle.g_infer.specs.Inferred.{told_branch}
use Rattle.g_infer.proofs.infer.listed_branches.Given as goal

abbrev pub invariant-loop-diagram : goal.invariant-loop-diagram
invariant-loop-diagram l = l.listed.items ++ map told_branch l.diagram-iterator ≡ map told_branch l.fn.branches.entries
