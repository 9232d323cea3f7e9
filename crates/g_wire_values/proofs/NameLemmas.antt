-- The numbers by name are what the kit's map does with its entries.
use Rattle.std.proofs.Common.{◌≡◌, Bool, true, false, ℕ, List, [], ◌∷◌, Some, Bor, map, cond, refl, ap}
use Rattle.std.specs.Prelude.{bytes_eq, is_some}
use Rattle.std.specs.Map.{lookup}
use Rattle.indexmap.specs.IndexMap.{insert_entry}
use Rattle.g_wire_values.specs.Names.{Numbers, named, add_name}

abbrev pub Entries : Type 0
Entries = List (Bor (List ℕ) × ℕ)

abbrev pub numbers : Entries → Numbers
numbers = map (λ e. (e.0.now, e.1))

pub lookup-named : (q : List ℕ) (es : Entries) → lookup (λ k. bytes_eq q k.now) es ≡ named (numbers es) q
lookup-named q [] = refl
lookup-named q (e ∷ es) = ap (λ o. cond (bytes_eq q e.0.now) (Some e.1) o) (lookup-named q es)

pub add_name-present : (n : List ℕ) (k : ℕ) (es : Numbers) → is_some (named es n) ≡ true → es ≡ add_name es n k
add_name-present n k [] h = cc
add_name-present n k (e ∷ es) h = by (bytes_eq n e.0) (add_name-present n k es) h
  where
    by : (b : Bool) → (is_some (named es n) ≡ true → es ≡ add_name es n k) → is_some (cond b (Some e.1) (named es n)) ≡ true → e ∷ es ≡ cond b (e ∷ es) (e ∷ add_name es n k)
    by true rest g = refl
    by false rest g = ap (λ more. e ∷ more) (rest g)

pub add_name-absent : (n : Bor (List ℕ)) (k : ℕ) (es : Entries) → is_some (named (numbers es) n.now) ≡ false
    → numbers (insert_entry (λ a b. bytes_eq a.now b.now) es n k) ≡ add_name (numbers es) n.now k
add_name-absent n k [] h = refl
add_name-absent n k (e ∷ es) h = by (bytes_eq n.now e.0.now) (add_name-absent n k es) h
  where
    by : (b : Bool) → (is_some (named (numbers es) n.now) ≡ false → numbers (insert_entry (λ a b. bytes_eq a.now b.now) es n k) ≡ add_name (numbers es) n.now k)
        → is_some (cond b (Some e.1) (named (numbers es) n.now)) ≡ false
        → numbers (cond b ((e.0, k) ∷ es) (e ∷ insert_entry (λ a b. bytes_eq a.now b.now) es n k)) ≡ cond b (numbers (e ∷ es)) ((e.0.now, e.1) ∷ add_name (numbers es) n.now k)
    by true rest g = cc
    by false rest g = ap (λ more. (e.0.now, e.1) ∷ more) (rest g)
