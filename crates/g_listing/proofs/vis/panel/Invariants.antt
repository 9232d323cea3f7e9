use Rattle.std.proofs.Common.{◌≡◌, ◌-◌, length}
use Rattle.g_grammar.specs.Grammar.{read, repeat, loop}
use Rattle.g_grammar.specs.Reads.{ended}
use Rattle.g_listing_grammar.specs.Listing.{body_first, body_item}
use Rattle.g_listing.proofs.vis.panel.Given as goal

abbrev pub invariant-loop : goal.invariant-loop
invariant-loop l = ended l.items (repeat (body_first l.version) (λ c. read ((body_item l.version) c)) (length l.tokens - l.counter) l.rest) ≡ read (loop (body_first l.version) (body_item l.version)) l.tokens
