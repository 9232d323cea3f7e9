use Rattle.std.proofs.Common.{◌≡◌, ◌≤◌, ◌-◌, ◌++◌, true, length, drop}
use Rattle.g_tokens.specs.Tokens.{lexemes, line_rest, tokens_of, places_of}
use Rattle.g_tokens.proofs.lines.line_rest.Given as goal

abbrev pub invariant-tokens : goal.invariant-tokens
invariant-tokens l = record {
  within : l.last ≤ length l.content;
  tokens : l.out.tokens ++ tokens_of (line_rest l.line l.last (lexemes true 0 l.last (drop l.last l.content)))
      ≡ l.fn.out.tokens ++ tokens_of (line_rest l.line l.fn.end (lexemes true 0 l.fn.end (drop l.fn.end l.content)));
  places : l.out.places ++ places_of (line_rest l.line l.last (lexemes true 0 l.last (drop l.last l.content)))
      ≡ l.fn.out.places ++ places_of (line_rest l.line l.fn.end (lexemes true 0 l.fn.end (drop l.fn.end l.content)));
}

abbrev pub decreases-tokens : goal.decreases-tokens
decreases-tokens l = length l.content - l.last
