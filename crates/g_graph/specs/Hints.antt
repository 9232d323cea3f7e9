-- What hints say of each node.
use Rattle.std.specs.Prelude.{ℕ, ◌≡◌, ◌⊎◌, ◌<◌, ◌≤◌, Bool, true, false, List, slice_get, Option, Some, None}
use Rattle.g_graph.specs.Graph.{Graph, has, has_edge, Enters, Leaves, Turns, Shown}
use Rattle.g_graph.specs.declared.hint.Hint.{Hint}

abbrev pub on_in : Option Hint → Bool
on_in None = false
on_in (Some h) = h.is_on

abbrev pub number_in : (Hint → ℕ) → Option Hint → ℕ
number_in f None = 0
number_in f (Some h) = f h

abbrev pub is_on : List Hint → ℕ → Bool
is_on hs v = on_in (slice_get hs v)

abbrev pub rank_of : List Hint → ℕ → ℕ
rank_of hs v = number_in (λ h. h.rank) (slice_get hs v)

abbrev pub root_of : List Hint → ℕ → ℕ
root_of hs v = number_in (λ h. h.root) (slice_get hs v)

abbrev pub near_of : List Hint → ℕ → ℕ
near_of hs v = number_in (λ h. h.near) (slice_get hs v)

abbrev pub far_of : List Hint → ℕ → ℕ
far_of hs v = number_in (λ h. h.far) (slice_get hs v)

-- what a node must have
pub record NodeShown (g : Graph) (hs : List Hint) (v : ℕ) : Type 0 where
  pub falls : (b : ℕ) → has_edge g v b ≡ true → rank_of hs b ≤ rank_of hs v
  pub drops : (b : ℕ) → is_on hs v ≡ false → has_edge g v b ≡ true → rank_of hs b < rank_of hs v
  pub enters : is_on hs v ≡ true → (root_of hs v ≡ v) ⊎ Enters (has_edge g) (is_on hs) (root_of hs) (near_of hs) v
  pub leaves : is_on hs v ≡ true → (root_of hs v ≡ v) ⊎ Leaves (has_edge g) (is_on hs) (root_of hs) (far_of hs) v
  pub turns : is_on hs v ≡ true → root_of hs v ≡ v → Turns (has_edge g) (is_on hs) (root_of hs) v

abbrev pub AreShown : Graph → List Hint → Type 0
AreShown g hs = Shown (has_edge g) (is_on hs) (rank_of hs) (root_of hs) (near_of hs) (far_of hs)

-- no step of a row leads higher, nor to the same height from a node that isn't on a cycle
pub record RowFalls (hs : List Hint) (h : Hint) (row : List ℕ) : Type 0 where
  pub falls : (b : ℕ) → has row b ≡ true → rank_of hs b ≤ h.rank
  pub drops : (b : ℕ) → h.is_on ≡ false → has row b ≡ true → rank_of hs b < h.rank

abbrev pub StepFalls : Hint → (rank : ℕ) → Type 0
StepFalls h rank = (rank ≤ h.rank) × (h.is_on ≡ false → rank < h.rank)
