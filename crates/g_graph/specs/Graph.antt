-- A graph as a list of rows, and the marks of a search.
use Rattle.std.specs.Prelude.{ℕ, ◌+◌, ◌<◌, ◌≤◌, ◌==◌, ◌≡◌, ◌⊎◌, Bool, true, false, cond, not, ◌&&◌, List, [], ◌∷◌, ◌++◌, length, slice_get, slice_index_or, Option, Some, None, All, sum_by, Vec}
use Rattle.std.specs.List.{list_any}
use Rattle.g_diagram.specs.Leads.{Leads}
use Rattle.std.specs.declared.alloc.Global.{Global}

abbrev pub Graph : Type 0
Graph = List (Vec ℕ Global)

abbrev pub row_of : Option (Vec ℕ Global) → List ℕ
row_of None = []
row_of (Some row) = row.items

abbrev pub has : List ℕ → ℕ → Bool
has xs b = list_any (λ c. c == b) xs

-- one step leads from a to b
abbrev pub has_edge : Graph → ℕ → ℕ → Bool
has_edge g a b = has (row_of (slice_get g a)) b

abbrev pub RowInRange : ℕ → List ℕ → Type 0
RowInRange n row = All (λ b. b < n) row

abbrev pub InRange : Graph → Type 0
InRange g = All (λ row. RowInRange (length g) row.items) g

abbrev pub is_marked : List Bool → ℕ → Bool
is_marked marks b = slice_index_or marks b false

abbrev pub unmarked : List Bool → ℕ
unmarked marks = sum_by (λ m. cond m 0 1) marks

-- the stack with b, unless b is marked already
abbrev pub stacked : Bool → List ℕ → ℕ → List ℕ
stacked true stack b = stack
stacked false stack b = stack ++ b ∷ []

-- marked since
abbrev pub is_fresh : (old new : List Bool) → ℕ → Bool
is_fresh old new b = is_marked new b && not (is_marked old b)

-- a node with a step to v that is nearer to their root
pub record Enters (step : ℕ → ℕ → Bool) (on : ℕ → Bool) (root near : ℕ → ℕ) (v : ℕ) : Type 0 where
  pub node : ℕ
  pub edge : step node v ≡ true
  pub is_on : on node ≡ true
  pub root_same : root node ≡ root v
  pub nearer : near node < near v

-- a node to which v has a step that is nearer to their root
pub record Leaves (step : ℕ → ℕ → Bool) (on : ℕ → Bool) (root far : ℕ → ℕ) (v : ℕ) : Type 0 where
  pub node : ℕ
  pub edge : step v node ≡ true
  pub is_on : on node ≡ true
  pub root_same : root node ≡ root v
  pub nearer : far node < far v

pub record Turns (step : ℕ → ℕ → Bool) (on : ℕ → Bool) (root : ℕ → ℕ) (v : ℕ) : Type 0 where
  pub node : ℕ
  pub edge : step v node ≡ true
  pub is_on : on node ≡ true
  pub root_is : root node ≡ v

-- what shows that exactly these nodes are on cycles
pub record Shown (step : ℕ → ℕ → Bool) (on : ℕ → Bool) (rank root near far : ℕ → ℕ) : Type 0 where
  pub falls : (a b : ℕ) → step a b ≡ true → rank b ≤ rank a
  pub drops : (a b : ℕ) → on a ≡ false → step a b ≡ true → rank b < rank a
  pub enters : (v : ℕ) → on v ≡ true → (root v ≡ v) ⊎ Enters step on root near v
  pub leaves : (v : ℕ) → on v ≡ true → (root v ≡ v) ⊎ Leaves step on root far v
  pub turns : (v : ℕ) → on v ≡ true → root v ≡ v → Turns step on root v

-- of each of the first n nodes, whether it leads to itself
pub record TellsCycles (g : Graph) (n : ℕ) (marks : List Bool) : Type 0 where
  pub long : length marks ≡ n
  pub sound : (v : ℕ) → v < n → is_marked marks v ≡ true → Leads (has_edge g) v v
  pub complete : (v : ℕ) → v < n → Leads (has_edge g) v v → is_marked marks v ≡ true
