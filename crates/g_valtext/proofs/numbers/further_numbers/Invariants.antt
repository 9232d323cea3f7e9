use Rattle.std.proofs.Common.{◌≡◌, ◌-◌}
use Rattle.g_grammar.specs.Grammar.{read}
use Rattle.g_grammar.specs.Reads.{with_front}
use Rattle.g_valtext.specs.Spellings.{further, number, most_further}
use Rattle.g_valtext.proofs.numbers.further_numbers.Given as goal

abbrev pub invariant-loop : goal.invariant-loop
invariant-loop l = record {
  rep : l.all.rep ≡ l.rep;
  read : with_front l.all.all (read (further (number l.rep) (most_further - l.counter)) l.rest) ≡ with_front l.fn.all.all (read (further (number l.rep) most_further) l.fn.tokens);
}
