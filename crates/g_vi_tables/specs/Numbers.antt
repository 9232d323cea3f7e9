-- The numbers of names: that of a name is the place of the first of this name, or how many there are.
use Rattle.std.specs.Prelude.{ℕ, ◌≡◌, ◌+◌, List, [], ◌∷◌, length, Option, Some, None, if◌then◌else◌}
use Rattle.std.specs.Ordering.{nat_cmp}
use Rattle.std.specs.Cmp.Lexicographic.{slice_cmp}
use Rattle.std.specs.Str.{bytes_eq}
use Rattle.std.specs.BTreeMap.{BTreeMap, get_by}
use denote.Ref.{Bor}
use Rattle.g_vi_tables.specs.declared.numbers.NameNumbers.{NameNumbers}

abbrev pub number_in : BTreeMap (Bor (List ℕ)) ℕ → (name : List ℕ) → Option ℕ
number_in m name = get_by (λ k. slice_cmp nat_cmp name k.now) m

-- the number of the first of a name, where the first of all has number n
abbrev pub number_from : (n : ℕ) → (name : List ℕ) → List (List ℕ) → Option ℕ
number_from n name [] = None
number_from n name (x ∷ xs) = if bytes_eq x name then Some n else number_from (n + 1) name xs

pub record AreNumbers (names : List (List ℕ)) (m : NameNumbers) : Type 0 where
  pub count_is : m.count ≡ length names
  pub numbers_are : (name : List ℕ) → number_in m.numbers name ≡ number_from 0 name names
