-- Operations on strings.
use Rattle.std.specs.Prelude.{ℕ, ℤ, pos, neg_ℤ, ◌+◌, ◌-◌, ◌*◌, ◌^◌, Bool, true, false, ◌&&◌, ◌==◌, List, [], ◌∷◌, ◌++◌, map, length, cond, nat_lt, nat_le, Option, Some, None}
use Rattle.std.specs.Fmt.{signed_decimal}
use Rattle.g_types.specs.declared.rep.Rep.TheVariants.{I32, I64, U8}
use Rattle.g_values.specs.declared.value.Value.{Value, out-Value}
use Rattle.g_values.specs.declared.value.Value.TheVariants as value
use Rattle.g_values.specs.declared.value.Value.TheOpen.{Value-F}
use Rattle.g_prims_definitions.specs.Arithmetic.{number, numbers}
use Rattle.g_prims_definitions.specs.Bits.{bits}
use Rattle.g_prims_definitions.specs.Arrays.{subset, within, number_of}

abbrev pub text_at : Value-F Value → List ℕ
text_at (Value-F.Str s) = s
text_at _ = []

abbrev pub text : Value → List ℕ
text v = text_at (out-Value v)

abbrev pub str_len : Value → Value
str_len s = number I32 (pos (length (text s)))

abbrev pub str_concat : Value → Value → Value
str_concat s t = value.Str (within (text s ++ text t))

abbrev pub str_subset : Value → Value → Value → Value
str_subset s i n = value.Str (subset (number_of i) (number_of n) (text s))

abbrev pub str_bytes : Value → Value
str_bytes s = numbers U8 (map pos (text s))

abbrev pub byte_list : Value-F Value → List ℤ
byte_list (Value-F.Nums xs) = xs.all
byte_list _ = []

-- a number of a byte is its own residue modulo 256
abbrev pub bytes_str : Value → Value
bytes_str a = value.Str (map (bits U8) (byte_list (out-Value a)))

abbrev pub num_str : Value → Value
num_str x = value.Str (signed_decimal (number_of x))

-- the number of a text: an optional `-` and 1 to 20 digits, in the range of i64

abbrev pub is_digit : ℕ → Bool
is_digit c = nat_le 48 c && nat_lt c 58

abbrev pub digits_from : ℕ → List ℕ → Option ℕ
digits_from n [] = Some n
digits_from n (c ∷ cs) = cond (is_digit c) (digits_from (n * 10 + (c - 48)) cs) None

abbrev pub natural : List ℕ → Option ℕ
natural cs = cond (nat_lt 0 (length cs) && nat_le (length cs) 20) (digits_from 0 cs) None

abbrev pub positive : Option ℕ → Option ℤ
positive None = None
positive (Some n) = cond (nat_lt n (2 ^ 63)) (Some (pos n)) None

abbrev pub negative : Option ℕ → Option ℤ
negative None = None
negative (Some n) = cond (nat_le n (2 ^ 63)) (Some (neg_ℤ (pos n))) None

abbrev pub integer : List ℕ → Option ℤ
integer [] = None
integer (c ∷ cs) = cond (c == 45) (negative (natural cs)) (positive (natural (c ∷ cs)))

abbrev pub told : Option ℤ → List Value
told None = number I64 (pos 0) ∷ value.Bool false ∷ []
told (Some n) = number I64 n ∷ value.Bool true ∷ []

abbrev pub str_num : Value → List Value
str_num s = told (integer (text s))
