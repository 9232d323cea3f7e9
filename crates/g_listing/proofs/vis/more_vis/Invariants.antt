use Rattle.std.proofs.Common.{◌≡◌, ◌-◌, length}
use Rattle.g_grammar.specs.Grammar.{read, repeat, loop, or_else}
use Rattle.g_grammar.specs.Reads.{ended}
use Rattle.g_listing_grammar.specs.Listing.{vi_word, at_end, vi_or_end}
use Rattle.g_listing.proofs.vis.more_vis.Given as goal

abbrev pub invariant-loop : goal.invariant-loop
invariant-loop l = ended l.found_vis (repeat (or_else vi_word at_end) (λ c. read ((vi_or_end l.version) c)) (length l.tokens - l.counter) l.rest) ≡ read (loop (or_else vi_word at_end) (vi_or_end l.version)) l.tokens
