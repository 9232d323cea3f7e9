use Rattle.std.proofs.Common.{◌≡◌, ◌++◌, map}
use Rattle.g_infer.specs.Inferred.{told_source}
use Rattle.g_infer.proofs.infer.listed_sources.Given as goal

abbrev pub invariant-loop-diagram : goal.invariant-loop-diagram
invariant-loop-diagram l = l.sources.items ++ map told_source l.diagram-iterator ≡ map told_source l.fn.own.entries
