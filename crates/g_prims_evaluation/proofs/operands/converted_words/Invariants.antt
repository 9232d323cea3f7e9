use Rattle.std.proofs.Common.{◌≡◌, take, map}
use Rattle.g_values.specs.Canonical.{canonical}
use Rattle.g_prims_evaluation.proofs.operands.converted_words.Given as goal

abbrev pub invariant-loop-word : goal.invariant-loop-word
invariant-loop-word l = l.all.items ≡ map (canonical l.rep) (take l.word-index l.words)
