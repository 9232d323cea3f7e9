use Rattle.std.proofs.Common.{◌≡◌, ◌≤◌, ◌-◌, ◌++◌, false, length, drop, map}
use Rattle.g_tokens.specs.Tokens.{lexemes}
use Rattle.g_tokens.proofs.lines.text_tokens.Given as goal

abbrev pub invariant-tokens : goal.invariant-tokens
invariant-tokens l = record {
  within : l.last ≤ length l.text;
  tokens : l.out.tokens ++ map (λ x. x.token) (lexemes false 0 l.last (drop l.last l.text)) ≡ map (λ x. x.token) (lexemes false 0 0 l.text);
  places : l.out.places ++ map (λ x. x.begin) (lexemes false 0 l.last (drop l.last l.text)) ≡ map (λ x. x.begin) (lexemes false 0 0 l.text);
}

abbrev pub decreases-tokens : goal.decreases-tokens
decreases-tokens l = length l.text - l.last
