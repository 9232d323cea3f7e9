use Rattle.std.proofs.Common.{◌≡◌, ◌-◌, drop, length}
use Rattle.g_prims_evaluation.specs.Accumulated.{accumulated_words}
use Rattle.g_prims_evaluation.proofs.numbers.accumulated_word.Given as goal

abbrev pub invariant-loop-i : goal.invariant-loop-i
invariant-loop-i l = l.word ≡ accumulated_words l.operator l.empty (drop (length l.words - l.i) l.words)
