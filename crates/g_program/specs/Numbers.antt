-- The numbers of keys: that of a key is the place of the first that is equal to it, or how many there are.
use Rattle.std.specs.Prelude.{ℕ, ◌≡◌, ◌+◌, List, [], ◌∷◌, length, Option, Some, None, if◌then◌else◌}
use Rattle.std.specs.declared.cmp.Ordering.{Ordering}
use Rattle.std.specs.Ordering.{is_eq}
use Rattle.std.specs.BTreeMap.{get}
use Rattle.g_frames.specs.Program.{place_where}
use Rattle.g_program.specs.declared.numbers.Numbers.{Numbers}

-- the number of the first key that is equal to one, where the first of all has number n
abbrev pub number_by : {K : Type 0} → (K → K → Ordering) → (n : ℕ) → K → List K → Option ℕ
number_by cmp n q [] = None
number_by cmp n q (k ∷ ks) = if is_eq (cmp k q) then Some n else number_by cmp (n + 1) q ks

abbrev pub place_by : {K : Type 0} → (K → K → Ordering) → K → List K → ℕ
place_by cmp q ks = place_where (λ k. is_eq (cmp k q)) ks

pub record AreNumbers {K : Type 0} (cmp : K → K → Ordering) (keys : List K) (m : Numbers K) : Type 0 where
  pub count_is : m.count ≡ length keys
  pub numbers_are : (q : K) → get cmp m.numbers q ≡ number_by cmp 0 q keys
