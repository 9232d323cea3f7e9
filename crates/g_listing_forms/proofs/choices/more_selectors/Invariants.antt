use Rattle.std.proofs.Common.{◌≡◌, ◌-◌, length}
use Rattle.g_grammar.specs.Grammar.{read, repeat, loop}
use Rattle.g_grammar.specs.Reads.{ended}
use Rattle.g_listing_grammar.specs.Nodes.{selector_first, selector_item}
use Rattle.g_listing_forms.proofs.choices.more_selectors.Given as goal

abbrev pub invariant-loop : goal.invariant-loop
invariant-loop l = ended l.found_selectors (repeat (selector_first) (λ c. read (selector_item c)) (length l.tokens - l.counter) l.rest) ≡ read (loop selector_first selector_item) l.tokens
