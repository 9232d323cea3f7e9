use Rattle.std.proofs.Common.{◌≡◌, ◌-◌, length}
use Rattle.g_grammar.specs.Grammar.{read, repeat, or_else}
use Rattle.g_grammar.specs.Reads.{ended}
use Rattle.g_listing_grammar.specs.Words.{word, word_in}
use Rattle.g_listing_grammar.specs.Borders.{line_or_end, lines_of, lines_to}
use Rattle.g_listing_forms.proofs.borders.lines.Given as goal

abbrev pub invariant-loop : goal.invariant-loop
invariant-loop l = ended l.found_lines (repeat (or_else (word_in (lines_of l.border)) (word l.stop)) (λ c. read (line_or_end c)) (length l.tokens - l.counter) l.rest) ≡ read (lines_to l.border l.stop) l.tokens
