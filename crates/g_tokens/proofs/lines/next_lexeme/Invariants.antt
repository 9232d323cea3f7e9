use Rattle.std.proofs.Common.{◌≡◌, drop}
use Rattle.g_tokens.specs.Tokens.{lexemes}
use Rattle.g_tokens.proofs.lines.next_lexeme.Given as goal

abbrev pub invariant-loop-at : goal.invariant-loop-at
invariant-loop-at l = lexemes l.comments 0 l.at (drop l.at l.content) ≡ lexemes l.comments 0 l.fn.from (drop l.fn.from l.content)
