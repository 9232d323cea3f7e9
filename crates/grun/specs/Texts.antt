-- The texts of refusals.
use Rattle.std.specs.Prelude.{ℕ, List, [], ◌∷◌, ◌++◌, slice_get, Option, Some, None, codes}
use Rattle.std.specs.Fmt.{decimal}
use Rattle.g_tokens.specs.declared.token.Spot.{Spot}
use Rattle.g_diagram.specs.declared.place.Break.{Break}
use Rattle.g_diagram.specs.declared.place.Place.{Place}
use Rattle.g_diagram.specs.declared.hierarchy.Vi.{Vi}

-- a line of the answer
abbrev pub line_of : List ℕ → List ℕ
line_of text = text ++ (10 ∷ [])

-- `L:C`
abbrev pub spot_text : Spot → List ℕ
spot_text s = decimal s.line ++ (58 ∷ decimal s.column)

-- ---- what is written of breaks: `VI:L.O rule R` for each

-- a break that belongs to no VI of the listing is the main one's, which is absent
abbrev pub name_or : (main : List ℕ) → Option Vi → List ℕ
name_or main None = main
name_or main (Some vi) = vi.name

abbrev pub vi_name : (main : List ℕ) → List Vi → (number : ℕ) → List ℕ
vi_name main vis number = name_or main (slice_get vis number)

abbrev pub place_text : (main : List ℕ) → List Vi → Place → List ℕ
place_text main vis p = vi_name main vis p.vi ++ (58 ∷ (decimal p.line ++ (46 ∷ decimal p.operand)))

abbrev pub break_text : (main : List ℕ) → List Vi → Break → List ℕ
break_text main vis b = place_text main vis b.place ++ (codes " rule " ++ (decimal b.rule ++ (10 ∷ [])))

abbrev pub breaks_text : (main : List ℕ) → List Vi → List Break → List ℕ
breaks_text main vis [] = []
breaks_text main vis (b ∷ bs) = break_text main vis b ++ breaks_text main vis bs
