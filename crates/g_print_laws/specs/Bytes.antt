-- Bytes, as numbers.
use Rattle.std.specs.Prelude.{ℕ, ◌≡◌, true, List, nat_lt}
use Rattle.std.specs.List.{list_all}

-- numbers that bytes can be
abbrev pub IsBytes : List ℕ → Type 0
IsBytes bytes = list_all (λ b. nat_lt b 256) bytes ≡ true
