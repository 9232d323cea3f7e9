-- When a `when` line names what stands in its case before. A number names itself, and a range each number from its low end to its high
-- one; a range that falls names nothing.
use Rattle.std.specs.Prelude.{Bool, true, false, not, ◌&&◌, ◌||◌, List, [], ◌∷◌, ◌++◌, ℤ, int_le}
use Rattle.std.specs.List.{list_any}
use Rattle.std.specs.Str.{bytes_eq}
use Rattle.g_diagram.specs.declared.node.Selector.{Selector}
use Rattle.g_diagram.specs.declared.node.Selector.TheVariants.{Number, Range, Truth, Text, Default}

abbrev pub falls : Selector → Bool
falls (Range low high) = not (int_le low high)
falls _ = false

-- whether a number lies both from a to b and from c to d
abbrev pub meet : (a b c d : ℤ) → Bool
meet a b c d = int_le a b && (int_le c d && (int_le a d && int_le c b))

abbrev pub same_truth : Bool → Bool → Bool
same_truth true b = b
same_truth false b = not b

-- whether a value, or `default`, belongs to both
abbrev pub overlaps : Selector → Selector → Bool
overlaps (Number a) (Number c) = meet a a c c
overlaps (Number a) (Range c d) = meet a a c d
overlaps (Range a b) (Number c) = meet a b c c
overlaps (Range a b) (Range c d) = meet a b c d
overlaps (Truth a) (Truth b) = same_truth a b
overlaps (Text a) (Text b) = bytes_eq a b
overlaps Default Default = true
overlaps _ _ = false

-- whether one of these falls or names what is named before it. The selectors of one line count as before one another
abbrev pub clashes : (before selectors : List Selector) → Bool
clashes before [] = false
clashes before (s ∷ ss) = falls s || (list_any (overlaps s) before || clashes (before ++ s ∷ []) ss)
