-- Breaks in order, and lists of them.
use Rattle.std.specs.Prelude.{IsTrue, Bool, List}
use Rattle.std.specs.List.{list_any}
use Rattle.std.specs.List.Sorted.{IsStrictlySortedBy}
use Rattle.std.specs.declared.cmp.Ordering.{Ordering}
use Rattle.std.specs.Ordering.{ordering_then, nat_cmp, is_eq}
use Rattle.g_diagram.specs.declared.place.Break.{Break}
use Rattle.g_diagram.specs.declared.place.Place.{Place}

-- places are ordered by VI, line and operand, and breaks by place and then rule
abbrev pub place_cmp : Place → Place → Ordering
place_cmp a b = ordering_then (nat_cmp a.vi b.vi) (ordering_then (nat_cmp a.line b.line) (nat_cmp a.operand b.operand))

abbrev pub break_cmp : Break → Break → Ordering
break_cmp a b = ordering_then (place_cmp a.place b.place) (nat_cmp a.rule b.rule)

-- whether a break stands in a list
abbrev pub has_break : List Break → Break → Bool
has_break bs b = list_any (λ c. is_eq (break_cmp b c)) bs

-- the list of exactly what is broken: strictly ascending
pub record ListsEach (P : Break → Type 0) (bs : List Break) : Type 0 where
  pub ascending : IsStrictlySortedBy break_cmp bs
  pub only : (b : Break) → IsTrue (has_break bs b) → P b
  pub each : (b : Break) → P b → IsTrue (has_break bs b)
