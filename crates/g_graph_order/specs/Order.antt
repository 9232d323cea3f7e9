-- Orders of a graph's nodes in which each edge leads from an earlier to a later node.
use Rattle.std.specs.Prelude.{ℕ, ◌+◌, ◌<◌, ◌≤◌, ◌==◌, ◌≡◌, true, cond, List, [], ◌∷◌, length, take, slice_get, slice_index_or, Some, count_by}
use Rattle.g_diagram.specs.Leads.{Leads}
use Rattle.g_graph.specs.Graph.{Graph, has, has_edge, row_of}

-- how often a number stands in a list
abbrev pub times : List ℕ → ℕ → ℕ
times xs b = count_by (λ c. c == b) xs

-- Each node stands in it once, nothing else stands in it, and whatever has an edge to a node stands before that node.
pub record IsOrder (g : Graph) (nodes : List ℕ) : Type 0 where
  pub each : (v : ℕ) → v < length g → times nodes v ≡ 1
  pub only : (v : ℕ) → length g ≤ v → times nodes v ≡ 0
  pub forward : (i a b : ℕ) → slice_get nodes i ≡ Some b → has_edge g a b ≡ true → has (take i nodes) a ≡ true

-- some node leads to itself
abbrev pub HasCycle : Graph → Type 0
HasCycle g = (v : ℕ) × Leads (has_edge g) v v

-- ---- how the order is found: a node is put into it once no edge to it is left

-- the nodes to which a node has edges
abbrev pub row_at : Graph → ℕ → List ℕ
row_at g v = row_of (slice_get g v)

-- the edges to b of the rows whose nodes aren't in the order yet, where k is the node of the first row
abbrev pub waits_from : List ℕ → (k : ℕ) → Graph → ℕ → ℕ
waits_from nodes k [] b = 0
waits_from nodes k (row ∷ rows) b = cond (has nodes k) 0 (times row.items b) + waits_from nodes (k + 1) rows b

abbrev pub waits : List ℕ → Graph → ℕ → ℕ
waits nodes g b = waits_from nodes 0 g b

-- how many edges to a node are left, and 1 of what is no node
abbrev pub at : List ℕ → ℕ → ℕ
at counts b = slice_index_or counts b 1

-- 1 of a node to which no edge is left, else 0
abbrev pub free : List ℕ → ℕ → ℕ
free counts b = cond (at counts b == 0) 1 0
