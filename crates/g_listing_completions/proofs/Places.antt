-- Bytes have one front that ends at a place.
use Rattle.std.proofs.Common.{◌≡◌, ℕ, suc, ◌+◌, ◌<◌, Bool, true, false, List, [], ◌∷◌, ◌++◌, length, cond, refl, sym, ap, ◌∙◌, subst, arith, inl, inr, ◌⊎◌}
use Rattle.std.specs.Prelude.{◌==◌}
use Rattle.g_tokens.specs.declared.token.Spot.{Spot}
use Rattle.g_listing_completions.specs.Completion.{next_place, place_after, first_place}

-- ---- two fronts of one list

-- they are one, or one of them goes on with what the other leaves
abbrev pub Aligned : {A : Type 0} → List A → List A → List A → List A → Type 0
Aligned {A} p q b c = (p ≡ q) ⊎ (((y : A) × (l : List A) × (q ≡ p ++ y ∷ l) × (b ≡ y ∷ (l ++ c))) ⊎ ((y : A) × (l : List A) × (p ≡ q ++ y ∷ l) × (c ≡ y ∷ (l ++ b))))

one_more : {A : Type 0} (x : A) (p q b c : List A) → Aligned p q b c → Aligned (x ∷ p) (x ∷ q) b c
one_more {A} x p q b c (inl e) = inl (ap (λ (l : List A). x ∷ l) e)
one_more {A} x p q b c (inr (inl m)) = inr (inl (m.0, m.1, ap (λ (l : List A). x ∷ l) m.2, m.3))
one_more {A} x p q b c (inr (inr m)) = inr (inr (m.0, m.1, ap (λ (l : List A). x ∷ l) m.2, m.3))

pub aligned : {A : Type 0} (p q b c : List A) → p ++ b ≡ q ++ c → Aligned p q b c
aligned [] [] b c e = inl refl
aligned [] (y ∷ q) b c e = inr (inl (y, q, refl, e))
aligned (x ∷ p) [] b c e = inr (inr (x, p, refl, sym e))
aligned {A} (x ∷ p) (y ∷ q) b c e =
    let h : x ≡ y = cc in
    let t : p ++ b ≡ q ++ c = cc in
    subst (λ (z : A). Aligned (x ∷ p) (z ∷ q) b c) h (one_more x p q b c (aligned p q b c t))

-- ---- places

pub place_both : (s : Spot) (a b : List ℕ) → place_after s (a ++ b) ≡ place_after (place_after s a) b
place_both s [] b = refl
place_both s (x ∷ a) b = place_both (next_place s x) a b

-- a place in a later line, or so many columns on in the same line
abbrev Later : Spot → Spot → ℕ → Type 0
Later s e n = (s.line < e.line) ⊎ ((e.line ≡ s.line) × (e.column ≡ s.column + n))

one_byte_on : (s e : Spot) (n : ℕ) (feed : Bool) → Later (cond feed (record { line = suc s.line; column = 1 }) (record { line = s.line; column = suc s.column })) e n → Later s e (suc n)
one_byte_on s e n true (inl h) = inl (omega (arith, h))
one_byte_on s e n true (inr h) = inl (omega (arith, h.0))
one_byte_on s e n false (inl h) = inl h
one_byte_on s e n false (inr h) = inr (h.0, omega (arith, h.1))

later : (s : Spot) (bytes : List ℕ) → Later s (place_after s bytes) (length bytes)
later s [] = inr (refl, omega arith)
later s (b ∷ bytes) = one_byte_on s (place_after (next_place s b) bytes) (length bytes) (b == 10) (later (next_place s b) bytes)

moves : (s : Spot) (b : ℕ) (bytes : List ℕ) → place_after s (b ∷ bytes) ≡ s → ⊥
moves s b bytes e = elim (later s (b ∷ bytes)) [
  | inl h ↦ omega (arith, h, ap (λ (u : Spot). u.line) e)
  | inr h ↦ omega (arith, h.1, ap (λ (u : Spot). u.column) e)
]

pub one_front : (a b c d : List ℕ) → a ++ b ≡ c ++ d → place_after first_place a ≡ place_after first_place c → a ≡ c
one_front a b c d e same = elim (aligned a c b d e) [
  | inl is ↦ is
  | inr (inl m) ↦ absurd (moves (place_after first_place a) m.0 m.1 (sym (place_both first_place a (m.0 ∷ m.1)) ∙ ap (place_after first_place) (sym m.2) ∙ sym same))
  | inr (inr m) ↦ absurd (moves (place_after first_place c) m.0 m.1 (sym (place_both first_place c (m.0 ∷ m.1)) ∙ ap (place_after first_place) (sym m.2) ∙ same))
]
