use Rattle.std.proofs.Common.{◌≡◌, take, map}
use Rattle.g_prims_edits.specs.Words.{absolute_word}
use Rattle.g_prims_evaluation.proofs.operands.absolute_words.Given as goal

abbrev pub invariant-loop-word : goal.invariant-loop-word
invariant-loop-word l = l.all.items ≡ map (absolute_word l.rep) (take l.word-index l.words)
