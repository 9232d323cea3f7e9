use Rattle.std.proofs.Common.{◌≡◌, ◌-◌, length}
use Rattle.g_grammar.specs.Grammar.{read, repeat, or_else}
use Rattle.g_grammar.specs.Reads.{ended}
use Rattle.g_listing_grammar.specs.Words.{wire, arrow_or_eol}
use Rattle.g_listing_grammar.specs.Borders.{item_or_end, wires_to}
use Rattle.g_listing_forms.proofs.operands.inputs.Given as goal

abbrev pub invariant-loop : goal.invariant-loop
invariant-loop l = ended l.wires (repeat (or_else wire arrow_or_eol) (λ c. read (item_or_end c)) (length l.tokens - l.counter) l.rest) ≡ read (wires_to arrow_or_eol) l.tokens
