-- Operations on the words of numbers, for the programs.
use Rattle.std.specs.Prelude.{ℕ, ℤ, Bool, false, ◌+◌, ◌-◌, ◌*◌, ◌%◌, ◌^◌, bit_and, bit_or, bit_xor, cond}
use Rattle.g_types.specs.declared.rep.Rep.{Rep}
use Rattle.g_types.specs.Rep.{wrap, is_signed}
use Rattle.g_values.specs.Canonical.{canonical}
use Rattle.g_values.specs.Numbers.{number, word}
use Rattle.g_prims_definitions.specs.Arithmetic.{absolute, plus, minus, times}
use Rattle.g_prims_definitions.specs.Bits.{by_bits, both, either, differs}
use Rattle.g_prims_edits.specs.declared.words.Operator.{Operator}
use Rattle.g_prims_edits.specs.declared.words.Operator.TheVariants.{Plus, Minus, Times, And, Or, Xor}

-- what an operator does with two numbers
abbrev pub on_numbers : Operator → ℤ → ℤ → ℤ
on_numbers Plus x y = plus x y
on_numbers Minus x y = minus x y
on_numbers Times x y = times x y
on_numbers And x y = by_bits bit_and x y
on_numbers Or x y = by_bits bit_or x y
on_numbers Xor x y = by_bits bit_xor x y

-- what it does with two Booleans, if it has bits
abbrev pub on_truths : Operator → Bool → Bool → Bool
on_truths And a b = both a b
on_truths Or a b = either a b
on_truths Xor a b = differs a b
on_truths _ a b = false

-- what it does with the words of two numbers
abbrev pub on_words : Operator → ℕ → ℕ → ℕ
on_words Plus a b = (a + b) % 2 ^ 64
on_words Minus a b = (a + (2 ^ 64 - b)) % 2 ^ 64
on_words Times a b = a * b % 2 ^ 64
on_words And a b = bit_and a b
on_words Or a b = bit_or a b
on_words Xor a b = bit_xor a b

-- the word of the result, wrapped
abbrev pub result_word : Operator → Rep → ℕ → ℕ → ℕ
result_word o r a b = canonical r (on_words o a b)

-- the word of a word's number without its sign
abbrev pub absolute_word : Rep → ℕ → ℕ
absolute_word r w = word (wrap r (absolute (number r w)))

-- what is added to a word, modulo 2 ^ 64, so that words stand in the order of their numbers
abbrev pub sign : Rep → ℕ
sign r = cond (is_signed r) (2 ^ 63) 0

abbrev pub key : Rep → ℕ → ℕ
key r w = (w + sign r) % 2 ^ 64
