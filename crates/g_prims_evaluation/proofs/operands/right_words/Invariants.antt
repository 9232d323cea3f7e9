use Rattle.std.proofs.Common.{◌≡◌, take, map}
use Rattle.g_prims_edits.specs.Words.{result_word}
use Rattle.g_prims_evaluation.proofs.operands.right_words.Given as goal

abbrev pub invariant-loop-y : goal.invariant-loop-y
invariant-loop-y l = l.words.items ≡ map (λ w. result_word l.operator l.rep l.by w) (take l.y-index l.ys)
