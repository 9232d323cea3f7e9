use Rattle.std.proofs.Common.{◌≡◌, ◌+◌, drop}
use Rattle.std.specs.List.{prefix_len}
use Rattle.g_tokens.specs.Tokens.{is_digit}
use Rattle.g_tokens.proofs.numbers.digits_length.Given as goal

abbrev pub invariant-loop-b : goal.invariant-loop-b
invariant-loop-b l = (l.length ≡ l.b-index) × (l.length + prefix_len is_digit (drop l.b-index l.bytes) ≡ prefix_len is_digit l.bytes)
