-- Inner: numbers by the words that arrays keep.
use Rattle.std.specs.Prelude.{ℕ, List}
use Rattle.std.specs.Fmt.{signed_decimal}
use Rattle.g_types.specs.declared.rep.Rep.{Rep}
use Rattle.g_values.specs.Numbers.{number}

abbrev pub word_text : Rep → ℕ → List ℕ
word_text r w = signed_decimal (number r w)
