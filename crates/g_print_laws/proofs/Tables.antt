-- What a word says by a table.
use Rattle.std.proofs.Common.{◌≡◌, ℕ, Bool, true, false, cond, List, [], ◌∷◌, Some, refl, sym, ap, ◌∙◌, subst}
use Rattle.std.specs.List.{list_all}
use Rattle.std.specs.Str.{bytes_eq}
use Rattle.std.proofs.lemmas.Bool.{and_parts}
use Rattle.std.proofs.lemmas.Slice.Eq.{bytes_eq-Decides}
use Rattle.g_listing_words.specs.Operations.{lookup}
use Rattle.g_print_laws.proofs.Parts.{some_is}

pub same_bytes : (v w : List ℕ) → bytes_eq v w ≡ true → v ≡ w
same_bytes v w e = (bytes_eq-Decides v w).0 e

-- a test that all rows pass, the word that is looked up passes
pub by_test : {A : Type 0} (p : List ℕ → A → Bool) (rows : List (List ℕ × A)) → list_all (λ row. p row.0 row.1) rows ≡ true → (w : List ℕ) (x : A) → lookup rows w ≡ Some x → p w x ≡ true
by_test p [] h w x e = absurd cc
by_test {A} p (row ∷ rows) h w x e = go (bytes_eq w row.0) refl e (by_test p rows (and_parts (p row.0 row.1) (list_all (λ row. p row.0 row.1) rows) h).1 w x)
  where
    go : (b : Bool) → bytes_eq w row.0 ≡ b → cond b (Some row.1) (lookup rows w) ≡ Some x → (lookup rows w ≡ Some x → p w x ≡ true) → p w x ≡ true
    go true is f next =
        let same : row.0 ≡ w = sym (same_bytes w row.0 is) in
        let q : p row.0 row.1 ≡ true = (and_parts (p row.0 row.1) (list_all (λ row. p row.0 row.1) rows) h).0 in
        ap (λ (v : List ℕ). p v x) (sym same) ∙ ap (λ (y : A). p row.0 y) (sym (some_is f)) ∙ q
    go false is f next = next f

-- a word is written as its value says
pub named : {A : Type 0} (spelled : A → List ℕ) (rows : List (List ℕ × A)) → list_all (λ row. bytes_eq row.0 (spelled row.1)) rows ≡ true → (w : List ℕ) (x : A) → lookup rows w ≡ Some x → w ≡ spelled x
named spelled rows h w x e = same_bytes w (spelled x) (by_test (λ v y. bytes_eq v (spelled y)) rows h w x e)

-- a fact of each row
abbrev pub Rows : {A : Type 0} → (List ℕ → A → Type 0) → List (List ℕ × A) → Type 0
Rows P [] = Unit {0}
Rows P (row ∷ rows) = P row.0 row.1 × Rows P rows

-- what holds of each row holds of the word that is looked up
pub holds : {A : Type 0} (P : List ℕ → A → Type 0) (rows : List (List ℕ × A)) → Rows P rows → (w : List ℕ) (x : A) → lookup rows w ≡ Some x → P w x
holds P [] h w x e = absurd cc
holds {A} P (row ∷ rows) h w x e = go (bytes_eq w row.0) refl e (holds P rows h.1 w x)
  where
    go : (b : Bool) → bytes_eq w row.0 ≡ b → cond b (Some row.1) (lookup rows w) ≡ Some x → (lookup rows w ≡ Some x → P w x) → P w x
    go true is f next =
        let same : w ≡ row.0 = same_bytes w row.0 is in
        subst (λ (v : List ℕ). P v x) (sym same) (subst (λ (y : A). P row.0 y) (some_is f) h.0)
    go false is f next = next f
