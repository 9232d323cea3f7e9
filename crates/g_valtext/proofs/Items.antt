-- Texts of several items.
use Rattle.std.proofs.Common.{◌≡◌, List, ◌++◌, ℕ, ◌+◌, ◌<◌, length, take, map, get_or, ap, ◌∙◌, sym, append_assoc, codes, arith}
use Rattle.std.proofs.lemmas.List.{map_more, length-map, length-take-le}
use Rattle.g_types.specs.Ty.{joined}
use Rattle.g_types.proofs.Texts.{joined-snoc}

-- one more item, after a comma
pub joined_more : {A : Type 0} (f : A → List ℕ) (items : List A) (i : ℕ) (d : A) → 0 < i → i < length items → joined (map f (take (i + 1) items)) ≡ joined (map f (take i items)) ++ (codes ", " ++ f (get_or items i d))
joined_more f items i d some below =
    ap joined (map_more f items i d below)
    ∙ joined-snoc (map f (take i items)) (f (get_or items i d)) (omega (arith, length-map (take i items) f, length-take-le i items (omega arith)))

-- the same where a comma and then the item were written
pub joined_written : {A : Type 0} (f : A → List ℕ) (items : List A) (i : ℕ) (d : A) (before out comma whole : List ℕ) → 0 < i → i < length items
    → out ≡ before ++ joined (map f (take i items)) → comma ≡ out ++ codes ", " → whole ≡ comma ++ f (get_or items i d) → whole ≡ before ++ joined (map f (take (i + 1) items))
joined_written f items i d before out comma whole some below e1 e2 e3 =
    let all = joined (map f (take i items)) in
    let item = f (get_or items i d) in
    e3 ∙ ap (λ (l : List ℕ). l ++ item) (e2 ∙ ap (λ (l : List ℕ). l ++ codes ", ") e1)
    ∙ append_assoc (before ++ all) (codes ", ") item
    ∙ append_assoc before all (codes ", " ++ item)
    ∙ ap (λ (l : List ℕ). before ++ l) (sym (joined_more f items i d some below))
