-- Values that their text tells: those in which no reference but null stands.
use Rattle.std.specs.Prelude.{ℕ, Bool, true, nat_lt, is_none}
use Rattle.std.specs.List.{list_all}
use Rattle.g_values.specs.declared.value.Value.{Value, fold-Value}
use Rattle.g_values.specs.declared.value.Value.TheOpen.{Value-F}
use Rattle.g_valtext.specs.Spellings.{is_within}

abbrev pub null_step : Value-F Bool → Bool
null_step (Value-F.Num x) = true
null_step (Value-F.Bool b) = true
null_step (Value-F.Str bytes) = true
null_step (Value-F.Nums xs) = true
null_step (Value-F.Arr xs) = list_all (λ b. b) xs.items
null_step (Value-F.Cluster items) = list_all (λ b. b) items
null_step (Value-F.Queue r) = is_none r.at
null_step (Value-F.Cell r) = is_none r.at

-- each reference in it is null
abbrev pub refers_to_none : Value → Bool
refers_to_none = fold-Value Bool null_step

abbrev pub is_byte : ℕ → Bool
is_byte b = nat_lt b 256

abbrev pub ranged_step : Value-F Bool → Bool
ranged_step (Value-F.Num x) = true
ranged_step (Value-F.Bool b) = true
ranged_step (Value-F.Str bytes) = list_all is_byte bytes
ranged_step (Value-F.Nums xs) = list_all (is_within xs.rep) xs.all
ranged_step (Value-F.Arr xs) = list_all (λ b. b) xs.items
ranged_step (Value-F.Cluster items) = list_all (λ b. b) items
ranged_step (Value-F.Queue r) = true
ranged_step (Value-F.Cell r) = true

-- its bytes and the numbers of its arrays are within their ranges, as those of each value that a program holds are
abbrev pub is_ranged : Value → Bool
is_ranged = fold-Value Bool ranged_step
