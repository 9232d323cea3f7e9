-- The canonical text of a value: numbers in decimal with no needless zero, TRUE or FALSE, texts between quotes, arrays in brackets and
-- clusters in braces with a comma and a space between items, `null` for the null reference and `ref` for every other one.
use Rattle.std.specs.Prelude.{ℕ, ◌+◌, ◌/◌, ◌%◌, nat_lt, ◌==◌, Bool, true, false, ◌||◌, ◌&&◌, if◌then◌else◌, List, [], ◌∷◌, ◌++◌, map, Option, Some, None, codes}
use Rattle.std.specs.Fmt.{signed_decimal}
use Rattle.g_types.specs.Ty.{joined}
use Rattle.g_values.specs.declared.value.Live.{Live}
use Rattle.g_values.specs.declared.value.Value.{Value, fold-Value}
use Rattle.g_values.specs.declared.value.Value.TheOpen.{Value-F}

-- a hexadecimal digit, above 9 in upper case
abbrev pub hex_digit : ℕ → ℕ
hex_digit d = if nat_lt d 10 then 48 + d else 55 + d

-- a byte inside a text: `"` and `\` after a `\`, and what isn't printable as `\x` with two digits
abbrev pub byte_text : ℕ → List ℕ
byte_text b =
    if (b == 34) || (b == 92) then 92 ∷ b ∷ []
    else (if nat_lt 31 b && nat_lt b 127 then b ∷ [] else 92 ∷ 120 ∷ hex_digit (b / 16) ∷ hex_digit (b % 16) ∷ [])

abbrev pub bytes_text : List ℕ → List ℕ
bytes_text [] = []
bytes_text (b ∷ bytes) = byte_text b ++ bytes_text bytes

abbrev pub quoted : List ℕ → List ℕ
quoted bytes = 34 ∷ (bytes_text bytes ++ 34 ∷ [])

abbrev pub truth_text : Bool → List ℕ
truth_text true = codes "TRUE"
truth_text false = codes "FALSE"

abbrev pub reference_text : Option Live → List ℕ
reference_text None = codes "null"
reference_text (Some live) = codes "ref"

abbrev pub bracketed : List (List ℕ) → List ℕ
bracketed items = codes "[" ++ (joined items ++ codes "]")

abbrev pub braced : List (List ℕ) → List ℕ
braced items = codes "{" ++ (joined items ++ codes "}")

abbrev pub text_step : Value-F (List ℕ) → List ℕ
text_step (Value-F.Num x) = signed_decimal x.n
text_step (Value-F.Bool b) = truth_text b
text_step (Value-F.Str bytes) = quoted bytes
text_step (Value-F.Nums xs) = bracketed (map signed_decimal xs.all)
text_step (Value-F.Arr xs) = bracketed xs.items
text_step (Value-F.Cluster items) = braced items
text_step (Value-F.Queue r) = reference_text r.at
text_step (Value-F.Cell r) = reference_text r.at

abbrev pub text : Value → List ℕ
text = fold-Value (List ℕ) text_step
