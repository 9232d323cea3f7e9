use Rattle.std.proofs.Common.{◌≡◌, ◌++◌, take, drop, map}
use Rattle.g_prims_edits.specs.Words.{absolute_word}
use Rattle.g_arrays.proofs.elements.absolute_words.Given as goal

abbrev pub invariant-loop-at : goal.invariant-loop-at
invariant-loop-at l = l.words.items ≡ map (absolute_word l.rep) (take l.at l.fn.words.items) ++ drop l.at l.fn.words.items
