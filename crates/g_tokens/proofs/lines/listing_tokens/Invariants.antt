use Rattle.std.proofs.Common.{◌≡◌, ◌≤◌, ◌+◌, ◌-◌, ◌++◌, drop, take}
use Rattle.g_tokens.specs.Tokens.{lines, lines_tokens, placed_tokens, tokens_of, places_of}
use Rattle.g_tokens.proofs.lines.listing_tokens.Given as goal

abbrev pub invariant-loop-i : goal.invariant-loop-i
invariant-loop-i l = record {
  before : l.from ≤ l.i;
  few : l.line ≤ l.i + 1;
  tokens : l.out.tokens ++ tokens_of (lines_tokens l.line (lines (take (l.i - l.from) (drop l.from l.bytes)) (drop l.i l.bytes))) ≡ tokens_of (placed_tokens l.bytes);
  places : l.out.places ++ places_of (lines_tokens l.line (lines (take (l.i - l.from) (drop l.from l.bytes)) (drop l.i l.bytes))) ≡ places_of (placed_tokens l.bytes);
}
