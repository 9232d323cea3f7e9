use Rattle.std.proofs.Common.{ℕ, ap, ◌∙◌, take}
use Rattle.std.specs.List.{list_all}
use Rattle.g_tokens.specs.Tokens.{is_digit}
use Rattle.g_tokens.proofs.WordRuns.{all_prefix}
use Rattle.g_tokens.proofs.numbers.number_at.Goals as goal

pub digits_value-value-requires-clause-digits : goal.digits_value-value-requires-clause-digits
digits_value-value-requires-clause-digits c =
    ap (list_all is_digit) (c.split_at.ensures.front ∙ ap (λ (k : ℕ). take k c.args.bytes.now) c.digits_length-length.ensures.value) ∙ all_prefix is_digit c.args.bytes.now
