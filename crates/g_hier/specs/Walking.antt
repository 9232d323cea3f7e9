-- Inner: the walk along the calls: the order of data spaces in the set of those that were met, and what is still to be entered.
use Rattle.std.specs.Prelude.{ℕ, Bool, List, [], ◌∷◌, map, if◌then◌else◌}
use Rattle.std.specs.Option.{option_cmp}
use Rattle.std.specs.declared.cmp.Ordering.{Ordering}
use Rattle.std.specs.Ordering.{ordering_then, nat_cmp}
use Rattle.g_diagram.specs.declared.hierarchy.System.{System}
use Rattle.g_hier.specs.declared.linked.Caller.{Caller}
use Rattle.g_hier.specs.declared.linked.Outline.{Outline}
use Rattle.g_hier.specs.declared.linked.Placed.{Placed}
use Rattle.g_hier.specs.declared.linked.Space.{Space}
use Rattle.g_hier.specs.LinkOrder.{pool_spaces, Enters, AreInLinkOrder}

abbrev pub caller_cmp : Caller → Caller → Ordering
caller_cmp a b = ordering_then (nat_cmp a.space b.space) (nat_cmp a.line b.line)

abbrev pub space_cmp : Space → Space → Ordering
space_cmp a b = ordering_then (nat_cmp a.vi b.vi) (ordering_then (nat_cmp a.clone b.clone) (option_cmp caller_cmp a.caller b.caller))

-- clones of a pool with their system
abbrev pub pool_placed : (vi first n : ℕ) → System → List Placed
pool_placed vi first n system = map (λ s. record { space = s; system = system }) (pool_spaces vi first n)

-- from the first on that wasn't met
abbrev pub unmet : (is_met : Space → Bool) → List Placed → List Placed
unmet is_met [] = []
unmet is_met (p ∷ ps) = if is_met p.space then unmet is_met ps else p ∷ ps

-- what is met once all that is pending is entered is the link order
abbrev pub Continues : List Outline → (main : ℕ) → (met pending : List Placed) → Type 0
Continues os main met pending = (after : List Placed) → Enters os met pending after → AreInLinkOrder os main after
