use Rattle.std.proofs.Common.{◌≡◌, ◌<◌, ◌^◌, true, drop}
use Rattle.std.specs.List.{list_all}
use Rattle.g_tokens.specs.Tokens.{is_digit, digits_value}
use Rattle.g_tokens.proofs.numbers.digits_value.Given as goal

abbrev pub invariant-loop-b : goal.invariant-loop-b
invariant-loop-b l = record {
  so_far : digits_value l.value (drop l.b-index l.digits) ≡ digits_value 0 l.digits;
  below : l.value < 10 ^ l.b-index;
  digits : list_all is_digit (drop l.b-index l.digits) ≡ true;
}
