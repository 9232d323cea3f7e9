-- Steps of loops over the ports of a VI.
use Rattle.std.proofs.Common.{◌≡◌, ℕ, ◌+◌, ◌<◌, ◌≤◌, Bool, ◌||◌, List, length, get_or, take, sym, ap, ◌∙◌, subst}
use Rattle.std.specs.Prelude.{All}
use Rattle.std.specs.List.{list_any}
use Rattle.std.proofs.lemmas.List.{take_all}
use Rattle.std.proofs.lemmas.List.Folds.{list_any_more}

pub all_taken : {X : Type 0} (P : X → Type 0) (xs : List X) (i : ℕ) → length xs ≤ i → All P (take i xs) → All P xs
all_taken P xs i le all = let Q : List _ → Type 0 = All P in subst Q (take_all i xs le) all

-- one more element, as at a step of a loop
pub edges_more : {X : Type 0} (p : X → Bool) (xs : List X) (i : ℕ) (d : X) (old new : Bool) → i < length xs → new ≡ (old || p (get_or xs i d)) → old ≡ list_any p (take i xs) → new ≡ list_any p (take (i + 1) xs)
edges_more p xs i d old new lt e h = e ∙ ap (λ b. b || p (get_or xs i d)) h ∙ sym (list_any_more p xs i d lt)
