-- What `link` answers.
use Rattle.std.specs.Prelude.{ℕ, ◌≡◌, ◌<◌, ◌≤◌, List, length, ◌↔◌, IsTrue, All}
use Rattle.g_hier.specs.declared.linked.Linked.{Linked}
use Rattle.g_hier.specs.declared.linked.Outline.{Outline}
use Rattle.g_rules_breaks.specs.Breaks.{ListsEach}
use Rattle.g_hier.specs.Counts.{IsNodeCount, most_nodes, told}
use Rattle.g_hier.specs.LinkOrder.{IsLinked, HasSpaces, EntersFrom, has_vi}
use Rattle.g_hier.specs.Recursion.{IsRecursion, HasNoRecursion, Reaches}
use Rattle.g_hier.specs.declared.linking.LinkRefused.{LinkRefused}
use Rattle.g_hier.specs.declared.linking.LinkRefused.TheVariants.{Recursive, TooLarge, Memory}

-- no VI leads back to itself, and the nodes after cloning are not too many: what is linked
pub record Links (os : List Outline) (main : ℕ) (l : Linked) : Type 0 where
  pub ends : HasNoRecursion os
  pub count : ℕ
  pub counted : IsNodeCount os main count
  pub few : count ≤ most_nodes
  pub linked : IsLinked os main l
  -- the VIs are those that calls can enter from MAIN on
  pub entered : (v : ℕ) → IsTrue (has_vi l.order v) ↔ EntersFrom os main v
  -- where each VI has a data space to be entered they are those that MAIN reaches
  pub reached : All (λ o. HasSpaces o.clones) os → (v : ℕ) → IsTrue (has_vi l.order v) ↔ Reaches os main v

-- no VI leads back to itself, and they are too many: how many
pub record IsTooLarge (os : List Outline) (main told_count : ℕ) : Type 0 where
  pub ends : HasNoRecursion os
  pub count : ℕ
  pub counted : IsNodeCount os main count
  pub many : most_nodes < count
  pub told_is : told_count ≡ told count

-- why it is refused; only want of memory is told of nothing
abbrev pub Refuses : List Outline → (main : ℕ) → LinkRefused → Type 0
Refuses os main (Recursive bs) = ListsEach (IsRecursion os) bs × (0 < length bs)
Refuses os main (TooLarge n) = IsTooLarge os main n
Refuses os main (Memory e) = Unit {0}
