use Rattle.std.proofs.Common.{◌≡◌, ◌-◌}
use Rattle.g_grammar.specs.Grammar.{read, take, exactly}
use Rattle.g_grammar.specs.Reads.{with_front}
use Rattle.g_listing_grammar.specs.Words.{wire}
use Rattle.g_listing.proofs.diagrams.more_wires.Given as goal

abbrev pub invariant-loop : goal.invariant-loop
invariant-loop l = with_front l.wires (read (exactly (l.count - l.counter) (take wire)) l.rest) ≡ read (exactly l.count (take wire)) l.tokens
