-- Inner: how it is found that each value is held. Proofs and private contracts alone speak of it.
use Rattle.std.specs.Prelude.{ℤ, pos, neg_ℤ, ◌+ℤ◌, Bool, true, false, not, ◌&&◌, ◌||◌, List, [], ◌∷◌, ◌++◌}
use Rattle.std.specs.List.{list_any}
use Rattle.g_types.specs.declared.rep.Rep.{Rep}
use Rattle.g_types.specs.Rep.{half}
use Rattle.g_types.specs.declared.ty.Ty.{Ty, out-Ty}
use Rattle.g_types.specs.declared.ty.Ty.TheOpen.{Ty-F}
use Rattle.g_diagram.specs.declared.node.Selector.{Selector}
use Rattle.g_diagram.specs.declared.node.Selector.TheVariants as selector
use Rattle.g_rules_cases.specs.Held.{is_in_range, is_default, has_number, tells}

-- the number after each number or range
abbrev pub after : Selector → List ℤ
after (selector.Number n) = (n +ℤ pos 1) ∷ []
after (selector.Range low high) = (high +ℤ pos 1) ∷ []
after (selector.Truth b) = []
after (selector.Text t) = []
after selector.Default = []

abbrev pub afters : List Selector → List ℤ
afters [] = []
afters (s ∷ ss) = after s ++ afters ss

abbrev pub least : Rep → ℤ
least r = neg_ℤ (pos (half r))

abbrev pub is_left : Rep → List Selector → ℤ → Bool
is_left r ss n = is_in_range r n && not (list_any (has_number n) ss)

-- Whether no selector names some number of the type. The least such number, if there is one, is the type's least or stands after a number or
-- a range, so these alone are looked at.
abbrev pub misses_number : Rep → List Selector → Bool
misses_number r ss = list_any (is_left r ss) (least r ∷ afters ss)

-- whether the selectors name all values of the type; they never name all texts
abbrev pub covers_at : Ty-F Ty → List Selector → Bool
covers_at (Ty-F.Num r) ss = not (misses_number r ss)
covers_at Ty-F.Bool ss = list_any (tells true) ss && list_any (tells false) ss
covers_at _ ss = false

abbrev pub covers : List Selector → Ty → Bool
covers ss t = covers_at (out-Ty t) ss

abbrev pub leaves_none : List Selector → Ty → Bool
leaves_none ss t = list_any is_default ss || covers ss t
