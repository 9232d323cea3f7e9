use Rattle.std.proofs.Common.{◌≡◌, take}
use Rattle.g_prims_edits.proofs.strings.words_of_bytes.Given as goal

abbrev pub invariant-loop-byte : goal.invariant-loop-byte
invariant-loop-byte l = l.words.items ≡ take l.byte-index l.bytes
