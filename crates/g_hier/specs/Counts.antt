-- Cloning: how many data spaces each VI has, and how many nodes there are in all data spaces.
use Rattle.std.specs.Prelude.{ℕ, zero, suc, ◌≡◌, ◌+◌, ◌*◌, ◌==◌, min, Bool, true, false, List, [], ◌∷◌}
use Rattle.g_diagram.specs.declared.hierarchy.Clones.{Clones}
use Rattle.g_diagram.specs.declared.hierarchy.Clones.TheVariants.{NonReentrant, Preallocated, Pool}
use Rattle.g_hier.specs.declared.linked.CallLine.{CallLine}
use Rattle.g_hier.specs.declared.linked.Outline.{Outline}

abbrev pub one_if : Bool → ℕ
one_if true = 1
one_if false = 0

-- how many of some call lines call a VI
abbrev pub calls_to : (vi : ℕ) → List CallLine → ℕ
calls_to v [] = 0
calls_to v (c ∷ cs) = one_if (c.vi == v) + calls_to v cs

-- how many call lines call a VI from all data spaces, where each VI has so many
abbrev pub callers : (vi : ℕ) → List Outline → (counts : List ℕ) → ℕ
callers v [] counts = 0
callers v (o ∷ os) [] = 0
callers v (o ∷ os) (n ∷ ns) = n * calls_to v o.calls + callers v os ns

-- a VI that no data space calls has none; else a non-reentrant one has one, a pool as many as its number, and a preallocated one has one for
-- each call line of each data space
abbrev pub spaces_for : Clones → (callers : ℕ) → ℕ
spaces_for clones zero = 0
spaces_for NonReentrant (suc n) = 1
spaces_for Preallocated (suc n) = suc n
spaces_for (Pool k) (suc n) = k

-- MAIN has one
abbrev pub count_for : (is_main : Bool) → Clones → (callers : ℕ) → ℕ
count_for true clones n = 1
count_for false clones n = spaces_for clones n

-- the counts that VIs get from counts, from a VI on
abbrev pub counts_for : (all : List Outline) (main : ℕ) (counts : List ℕ) (vi : ℕ) → List Outline → List ℕ
counts_for all main counts vi [] = []
counts_for all main counts vi (o ∷ os) = count_for (vi == main) o.clones (callers vi all counts) ∷ counts_for all main counts (suc vi) os

-- how many data spaces each VI has: counts that give themselves
abbrev pub AreCounts : List Outline → (main : ℕ) → (counts : List ℕ) → Type 0
AreCounts os main counts = counts ≡ counts_for os main counts 0 os

-- the nodes of all data spaces
abbrev pub nodes_in : List Outline → (counts : List ℕ) → ℕ
nodes_in [] counts = 0
nodes_in (o ∷ os) [] = 0
nodes_in (o ∷ os) (n ∷ ns) = n * o.nodes + nodes_in os ns

-- the number of nodes after cloning, by the only counts that there are
pub record IsNodeCount (os : List Outline) (main count : ℕ) : Type 0 where
  pub counts : List ℕ
  pub are : AreCounts os main counts
  pub only : (others : List ℕ) → AreCounts os main others → others ≡ counts
  pub count_is : count ≡ nodes_in os counts

-- more than these are too many
abbrev pub most_nodes : ℕ
most_nodes = 65536

-- a number as it is told: kept at 2^63
abbrev pub told : ℕ → ℕ
told n = min n 9223372036854775808
