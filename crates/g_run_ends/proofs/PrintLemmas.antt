-- What is printed of indicators, and of nodes that wait.
use Rattle.std.proofs.Common.{◌≡◌, ◌≤◌, ℕ, List, [], ◌∷◌, ◌++◌, drop, length, refl, ap, sym, ◌∙◌}
use Rattle.std.proofs.lemmas.List.{drop_all}
use Rattle.g_values.specs.declared.value.Value.{Value}
use Rattle.g_diagram.specs.declared.panel.PanelItem.{PanelItem}
use Rattle.g_frames.specs.Panels.{indicator_names}
use Rattle.g_frames.specs.Print.{indicator_lines}

no_values : (ns : List (List ℕ)) (rest : List ℕ) → indicator_lines ns [] rest ≡ rest
no_values [] rest = refl
no_values (n ∷ ns) rest = refl

pub ended : (item : PanelItem) (items : List PanelItem) (vs : List Value) (at : ℕ) (out rest : List ℕ) → length vs ≤ at
    → out ++ indicator_lines (indicator_names items) (drop at vs) rest ≡ out ++ indicator_lines (indicator_names (item ∷ items)) (drop at vs) rest
ended item items vs at out rest past =
    ap (λ ws. out ++ indicator_lines (indicator_names items) ws rest) (drop_all at vs past)
    ∙ ap (λ l. out ++ l) (no_values (indicator_names items) rest ∙ sym (no_values (indicator_names (item ∷ items)) rest))
    ∙ ap (λ ws. out ++ indicator_lines (indicator_names (item ∷ items)) ws rest) (sym (drop_all at vs past))
