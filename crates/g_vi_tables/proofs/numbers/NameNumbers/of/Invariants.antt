use Rattle.std.proofs.Common.{◌≡◌, ℕ, List, map, drop}
use Rattle.std.specs.Option.{option_or}
use Rattle.g_vi_tables.specs.Numbers.{number_in, number_from}
use Rattle.g_vi_tables.proofs.numbers.NameNumbers.of.Given as goal

abbrev pub invariant-loop-name : goal.invariant-loop-name
invariant-loop-name l = record {
  count : l.count ≡ l.name-index;
  numbers : (q : List ℕ) → option_or (number_in l.numbers q) (number_from l.count q (map (λ n. n.now) (drop l.name-index l.names))) ≡ number_from 0 q (map (λ n. n.now) l.names);
}
