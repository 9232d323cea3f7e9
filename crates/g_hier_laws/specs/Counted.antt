-- The data spaces that are linked, against the counts of cloning, and the lines of calls.
use Rattle.std.specs.Prelude.{ℕ, ◌≡◌, ◌≤◌, ◌==◌, List, map, min, slice_index}
use Rattle.std.specs.List.{sum_by, count_by}
use Rattle.g_hier.specs.declared.linked.Linked.{Linked}
use Rattle.g_hier.specs.declared.linked.Outline.{Outline}
use Rattle.g_hier.specs.declared.linked.Space.{Space}
use Rattle.g_hier.specs.Counts.{AreCounts, IsNodeCount, most_nodes}
use Rattle.g_hier.specs.Outlines.{calls_at}

-- the nodes of a VI
abbrev pub nodes_at : List Outline → (vi : ℕ) → ℕ
nodes_at os v = slice_index (map (λ o. o.nodes) os) v

-- the nodes of data spaces: each has those of its VI
abbrev pub nodes_over : List Outline → List Space → ℕ
nodes_over os spaces = sum_by (λ s. nodes_at os s.vi) spaces

-- what is linked has as many data spaces and nodes as cloning counts, by the only counts that there are
pub record IsAsCounted (os : List Outline) (main : ℕ) (l : Linked) : Type 0 where
  -- each VI has as many data spaces as are counted
  pub spaces : (counts : List ℕ) → AreCounts os main counts → (v : ℕ) → count_by (λ s. s.vi == v) l.spaces ≡ slice_index counts v
  -- all data spaces have as many nodes as are counted
  pub nodes : (count : ℕ) → IsNodeCount os main count → nodes_over os l.spaces ≡ count
  -- so they are not too many
  pub few : nodes_over os l.spaces ≤ most_nodes
  -- the VIs are those with a data space, each once
  pub vis : (counts : List ℕ) → AreCounts os main counts → (v : ℕ) → count_by (λ u. u == v) l.order ≡ min 1 (slice_index counts v)

-- no line of a VI has two calls
abbrev pub HaveOwnLines : List Outline → Type 0
HaveOwnLines os = (v l : ℕ) → count_by (λ c. c.line == l) (calls_at os v) ≤ 1
