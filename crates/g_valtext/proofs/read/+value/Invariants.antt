use Rattle.std.proofs.Common.{◌≡◌, ◌-◌, map, drop}
use Rattle.g_grammar.specs.Grammar.{read}
use Rattle.g_grammar.specs.Reads.{with_front}
use Rattle.g_valtext.specs.Spellings.{further, values, most_further, parts, parts_after}
use Rattle.g_valtext.proofs.read.+value.Given as goal

abbrev pub invariant-further_items-loop : goal.invariant-further_items-loop
invariant-further_items-loop l = with_front l.items (read (further (values l.elem) (most_further - l.counter)) l.rest) ≡ with_front l.fn.items (read (further (values l.elem) most_further) l.fn.tokens)

abbrev pub invariant-parts-loop-i : goal.invariant-parts-loop-i
invariant-parts-loop-i l = with_front l.items (read (parts_after (map values (drop l.i l.types))) l.rest) ≡ read (parts (map values l.types)) l.tokens
