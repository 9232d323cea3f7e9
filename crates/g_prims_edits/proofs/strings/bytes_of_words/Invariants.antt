use Rattle.std.proofs.Common.{◌≡◌, ◌%◌, map, take}
use Rattle.g_prims_edits.proofs.strings.bytes_of_words.Given as goal

abbrev pub invariant-loop-word : goal.invariant-loop-word
invariant-loop-word l = l.bytes.items ≡ map (λ w. w % 256) (take l.word-index l.words)
