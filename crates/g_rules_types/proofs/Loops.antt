-- Steps of loops that add to a list.
use Rattle.std.proofs.Common.{◌≡◌, ℕ, ◌+◌, ◌<◌, ◌≤◌, List, [], ◌∷◌, ◌++◌, length, get_or, drop, ap, sym, ◌∙◌, append_assoc}
use Rattle.std.proofs.lemmas.List.{at_drop_more, at_drop_all, append-nil}

-- one more element, for which g is added
pub one_more : {X P : Type 0} (F G : List X → List P) (g : List P) (xs : List X) (i : ℕ) (x : X) (a b whole : List P) → i < length xs → x ≡ get_or xs i x
    → b ≡ a ++ g → F (x ∷ drop (i + 1) xs) ≡ g ++ G (drop (i + 1) xs) → a ++ F (drop i xs) ≡ whole → b ++ G (drop (i + 1) xs) ≡ whole
one_more F G g xs i x a b whole lt is e step h =
    ap (λ ps. ps ++ G (drop (i + 1) xs)) e ∙ append_assoc a g (G (drop (i + 1) xs))
    ∙ ap (λ ps. a ++ ps) (sym (at_drop_more F xs i x lt ∙ ap (λ y. F (y ∷ drop (i + 1) xs)) (sym is) ∙ step)) ∙ h

-- nothing is left to add
pub all_added : {X P : Type 0} (F : List X → List P) (xs : List X) (i : ℕ) (a whole : List P) → length xs ≤ i → F [] ≡ [] → a ++ F (drop i xs) ≡ whole → a ≡ whole
all_added F xs i a whole le none h = sym (append-nil a) ∙ ap (λ ps. a ++ ps) (sym (at_drop_all F xs i le ∙ none)) ∙ h
