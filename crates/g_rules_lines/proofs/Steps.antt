-- Steps of loops that add what is told of each element.
use Rattle.std.proofs.Common.{◌≡◌, ℕ, ◌+◌, ◌<◌, List, ◌∷◌, ◌++◌, length, get_or, drop, map, append_assoc, sym, ap, ◌∙◌}
use Rattle.std.proofs.lemmas.List.{at_drop_more, map-append}

pub told_more : {X Y B : Type 0} (g : Y → B) (f : X → List Y) (F : List X → List Y) (xs : List X) (i : ℕ) (x : X) (old new whole : List B) → i < length xs → x ≡ get_or xs i x
    → F (x ∷ drop (i + 1) xs) ≡ f x ++ F (drop (i + 1) xs) → new ≡ old ++ map g (f x) → old ++ map g (F (drop i xs)) ≡ whole → new ++ map g (F (drop (i + 1) xs)) ≡ whole
told_more g f F xs i x old new whole lt is cons e h =
    ap (λ bs. bs ++ map g (F (drop (i + 1) xs))) e
    ∙ append_assoc old (map g (f x)) (map g (F (drop (i + 1) xs)))
    ∙ ap (λ bs. old ++ bs) (sym (map-append g (f x) (F (drop (i + 1) xs))))
    ∙ ap (λ ys. old ++ map g ys) (sym cons ∙ ap (λ y. F (y ∷ drop (i + 1) xs)) is ∙ sym (at_drop_more F xs i x lt))
    ∙ h
