use Rattle.std.proofs.Common.{◌≡◌, take}
use Rattle.std.specs.Simd.Lanes.{zip2}
use Rattle.g_prims_edits.specs.Words.{result_word}
use Rattle.g_prims_evaluation.proofs.operands.zipped_words.Given as goal

abbrev pub invariant-loop-at : goal.invariant-loop-at
invariant-loop-at l = l.words.items ≡ zip2 (result_word l.operator l.rep) (take l.at l.xs) (take l.at l.ys)
