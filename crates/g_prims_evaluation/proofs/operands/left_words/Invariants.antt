use Rattle.std.proofs.Common.{◌≡◌, take, map}
use Rattle.g_prims_edits.specs.Words.{result_word}
use Rattle.g_prims_evaluation.proofs.operands.left_words.Given as goal

abbrev pub invariant-loop-x : goal.invariant-loop-x
invariant-loop-x l = l.words.items ≡ map (λ w. result_word l.operator l.rep w l.by) (take l.x-index l.xs)
