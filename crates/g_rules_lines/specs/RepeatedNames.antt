-- Rule 7: each VI whose name a VI before it has, and each panel line whose name a line before it in its panel has.
use Rattle.std.specs.Prelude.{ℕ, ◌+◌, List, [], ◌∷◌, ◌++◌, if◌then◌else◌}
use Rattle.std.specs.List.{list_any}
use Rattle.std.specs.Str.{bytes_eq}
use Rattle.g_diagram.specs.declared.panel.PanelItem.{PanelItem}
use Rattle.g_diagram.specs.declared.place.Break.{Break}
use Rattle.g_diagram.specs.declared.hierarchy.Vi.{Vi}
use Rattle.g_rules_lines.specs.Spots.{break, spot_at}
use Rattle.g_rules_lines.specs.PanelObjects.{panel_name}

-- what is told of each of some numbered items whose name one before it has
abbrev pub named_again : {X B : Type 0} → (name : X → List ℕ) → (told : ℕ → B) → (number : ℕ) → (before items : List X) → List B
named_again name told n before [] = []
named_again name told n before (x ∷ xs) =
    (if list_any (λ y. bytes_eq (name y) (name x)) before then told n ∷ [] else []) ++ named_again name told (n + 1) (before ++ x ∷ []) xs

abbrev pub renamed_items : (number : ℕ) → List PanelItem → List Break
renamed_items number panel = named_again panel_name (λ line. break number 7 (spot_at line 0)) 1 [] panel

abbrev pub renamed_vis : List Vi → List Break
renamed_vis vis = named_again (λ vi. vi.name) (λ number. break number 7 (spot_at 0 0)) 0 [] vis
