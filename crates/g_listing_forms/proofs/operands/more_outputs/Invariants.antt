use Rattle.std.proofs.Common.{◌≡◌, ◌-◌, length}
use Rattle.g_grammar.specs.Grammar.{read, repeat, or_else}
use Rattle.g_grammar.specs.Reads.{fronts}
use Rattle.g_listing_grammar.specs.Words.{wire, eol}
use Rattle.g_listing_grammar.specs.Borders.{item_or_end, wires_to}
use Rattle.g_listing_forms.proofs.operands.more_outputs.Given as goal

abbrev pub invariant-loop : goal.invariant-loop
invariant-loop l = fronts l.wires (repeat (or_else wire eol) (λ c. read (item_or_end c)) (length l.tokens - l.counter) l.rest) ≡ fronts l.fn.wires (read (wires_to eol) l.tokens)
