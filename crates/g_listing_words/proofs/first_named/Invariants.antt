use Rattle.std.proofs.Common.{◌≡◌, drop}
use Rattle.g_listing_words.specs.Operations.{lookup, words_of}
use Rattle.g_listing_words.proofs.first_named.Given as goal

abbrev pub invariant-loop-operation : goal.invariant-loop-operation
invariant-loop-operation l = lookup (words_of (drop l.operation-index l.operations)) l.word ≡ lookup (words_of l.operations) l.word
