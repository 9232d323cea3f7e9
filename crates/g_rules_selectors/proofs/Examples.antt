-- Lines of a case, computed: what clashes and what doesn't.
use Rattle.std.proofs.Common.{◌≡◌, true, false, List, [], ◌∷◌, pos, negsuc, refl}
use Rattle.std.specs.Prelude.{codes}
use Rattle.g_diagram.specs.declared.node.Selector.{Selector}
use Rattle.g_diagram.specs.declared.node.Selector.TheVariants.{Number, Range, Truth, Text, Default}
use Rattle.g_rules_selectors.specs.Clashes.{clashes}

-- when 1, 4..6
abbrev before : List Selector
before = Number (pos 1) ∷ Range (pos 4) (pos 6) ∷ []

shares_a_value : clashes before (Range (pos 6) (pos 9) ∷ []) ≡ true
shares_a_value = refl

stands_between : clashes before (Range (pos 2) (pos 3) ∷ Number (pos 7) ∷ []) ≡ false
stands_between = refl

repeats_itself : clashes before (Number (pos 2) ∷ Range (pos 2) (pos 2) ∷ []) ≡ true
repeats_itself = refl

range_that_falls : clashes before (Range (pos 6) (pos 4) ∷ []) ≡ true
range_that_falls = refl

-- it holds no number, and so its ends are free
nothing_held : clashes (Range (pos 9) (pos 7) ∷ []) (Range (pos 7) (pos 9) ∷ Range (negsuc 4) (negsuc 0) ∷ []) ≡ false
nothing_held = refl

other_kinds : clashes (Text (codes "a") ∷ Truth true ∷ Default ∷ []) (Text (codes "ab") ∷ Truth false ∷ Number (pos 0) ∷ []) ≡ false
other_kinds = refl

text_again : clashes (Text (codes "a") ∷ []) (Text (codes "a") ∷ []) ≡ true
text_again = refl

truth_again : clashes (Truth false ∷ []) (Truth false ∷ []) ≡ true
truth_again = refl

default_again : clashes (Default ∷ []) (Default ∷ []) ≡ true
default_again = refl
