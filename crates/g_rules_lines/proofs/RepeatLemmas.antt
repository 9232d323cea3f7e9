-- Names that were used before.
use Rattle.std.proofs.Common.{◌≡◌, ℕ, ◌+◌, ◌<◌, Bool, ◌||◌, List, [], ◌∷◌, ◌++◌, length, get_or, take, drop, append_assoc, sym, ap, ◌∙◌}
use Rattle.std.specs.Prelude.{if◌then◌else◌}
use Rattle.std.specs.List.{list_any}
use Rattle.std.specs.Str.{bytes_eq}
use Rattle.std.proofs.lemmas.List.{at_drop_more, take_more}
use Rattle.std.proofs.lemmas.List.Folds.{list_any_more}
use Rattle.g_rules_lines.specs.RepeatedNames.{named_again}
use Rattle.g_rules_lines.specs.Names.{Names, has_name}

-- one more item, as at a step of a loop
pub again_more : {X B : Type 0} (name : X → List ℕ) (told : ℕ → B) (xs : List X) (i : ℕ) (x : X) (n next : ℕ) (used : Bool) (old new whole : List B) → i < length xs → x ≡ get_or xs i x → next ≡ n + 1
    → used ≡ list_any (λ y. bytes_eq (name y) (name x)) (take i xs) → new ≡ old ++ (if used then told n ∷ [] else [])
    → old ++ named_again name told n (take i xs) (drop i xs) ≡ whole → new ++ named_again name told next (take (i + 1) xs) (drop (i + 1) xs) ≡ whole
again_more name told xs i x n next used old new whole lt is en eu e h =
    let rest : List _ = named_again name told (n + 1) (take i xs ++ x ∷ []) (drop (i + 1) xs) in
    ap (λ bs. bs ++ named_again name told next (take (i + 1) xs) (drop (i + 1) xs)) e
    ∙ ap (λ m. (old ++ (if used then told n ∷ [] else [])) ++ named_again name told m (take (i + 1) xs) (drop (i + 1) xs)) en
    ∙ ap (λ ys. (old ++ (if used then told n ∷ [] else [])) ++ named_again name told (n + 1) ys (drop (i + 1) xs)) (take_more xs i x lt ∙ ap (λ y. take i xs ++ y ∷ []) (sym is))
    ∙ append_assoc old (if used then told n ∷ [] else []) rest
    ∙ ap (λ b. old ++ ((if b then told n ∷ [] else []) ++ rest)) eu
    ∙ ap (λ bs. old ++ bs) (sym (at_drop_more (named_again name told n (take i xs)) xs i x lt ∙ ap (λ y. named_again name told n (take i xs) (y ∷ drop (i + 1) xs)) (sym is)))
    ∙ h

pub names_more : {X : Type 0} (name : X → List ℕ) (xs : List X) (i : ℕ) (x : X) (bs : List ℕ) (old new : Names) → i < length xs → x ≡ get_or xs i x → bs ≡ name x
    → ((n : List ℕ) → has_name new n ≡ (has_name old n || bytes_eq bs n)) → ((n : List ℕ) → has_name old n ≡ list_any (λ y. bytes_eq (name y) n) (take i xs))
    → (n : List ℕ) → has_name new n ≡ list_any (λ y. bytes_eq (name y) n) (take (i + 1) xs)
names_more name xs i x bs old new lt is e added h n =
    added n ∙ ap (λ b. b || bytes_eq bs n) (h n) ∙ ap (λ cs. list_any (λ y. bytes_eq (name y) n) (take i xs) || bytes_eq cs n) (e ∙ ap name is)
    ∙ sym (list_any_more (λ y. bytes_eq (name y) n) xs i x lt)
