-- The VIs of data spaces stand in link order once each.
use Rattle.std.proofs.Common.{◌≡◌, ◌⊎◌, inl, inr, ⊎_elim, ℕ, ◌+◌, ◌<◌, ◌≤◌, ◌==◌, min, Bool, true, false, ◌||◌, cond, List, [], ◌∷◌, ◌++◌, refl, ap, ◌∙◌, arith}
use Rattle.std.specs.Prelude.{if◌then◌else◌}
use Rattle.std.specs.List.{count_by}
use Rattle.std.proofs.lemmas.List.Sums.{sum_by-cons, sum_by_push}
use Rattle.g_graph.proofs.Search.{same_number}
use Rattle.g_hier.specs.declared.linked.Placed.{Placed}
use Rattle.g_hier.specs.Counts.{one_if}
use Rattle.g_hier.specs.LinkOrder.{has_vi, with_vi, vis_after}
use Rattle.g_hier_laws.proofs.Spaces.{number}
use Rattle.g_hier_laws.proofs.Entered.{spaces_in}
use Rattle.g_hier_laws.proofs.Tally.{number_more}

-- how often a VI stands in a list
abbrev pub often : (vi : ℕ) → List ℕ → ℕ
often v order = count_by (λ u. u == v) order

abbrev Stands : List ℕ → ℕ → (has : Bool) → Type 0
Stands order v has = (has ≡ true) × (0 < often v order) ⊎ (has ≡ false) × (often v order ≡ 0)

stands : (order : List ℕ) (v : ℕ) → Stands order v (has_vi order v)
stands [] v = inr (refl, refl)
stands (x ∷ order) v = by (x == v) (sum_by-cons (λ u. cond (u == v) 1 0) x order) (stands order v)
  where
    by : (b : Bool) → often v (x ∷ order) ≡ cond b 1 0 + often v order → Stands order v (has_vi order v) → Stands (x ∷ order) v (b || has_vi order v)
    by true e s = inl (refl, omega (arith, e))
    by false e s = ⊎_elim (λ h. inl (h.0, let k = h.1 in omega (arith, e, k))) (λ h. inr (h.0, let k = h.1 in omega (arith, e, k))) s

one_more : (order : List ℕ) (x v : ℕ) → ((u : ℕ) → often u order ≤ 1) → often v (with_vi order x) ≡ min 1 (often v order + one_if (x == v))
one_more order x v once = ⊎_elim
    (λ h. ap (λ b. often v (if b then order else order ++ x ∷ [])) h.0 ∙ there (x == v) refl h.1)
    (λ h. ap (λ b. often v (if b then order else order ++ x ∷ [])) h.0 ∙ sum_by_push (λ u. cond (u == v) 1 0) order x ∙ new (x == v) refl h.1)
    (stands order x)
  where
    there : (b : Bool) → (x == v) ≡ b → 0 < often x order → often v order ≡ min 1 (often v order + one_if b)
    there true e some = let same : often x order ≡ often v order = ap (λ u. often u order) (same_number x v e) in let le = once v in omega (arith, same, some, le)
    there false e some = let le = once v in omega (arith, le)

    new : (b : Bool) → (x == v) ≡ b → often x order ≡ 0 → often v order + cond b 1 0 ≡ min 1 (often v order + one_if b)
    new true e none = let same : often x order ≡ often v order = ap (λ u. often u order) (same_number x v e) in omega (arith, same, none)
    new false e none = let le = once v in omega (arith, le)

after : (order : List ℕ) (ps : List Placed) (v : ℕ) → ((u : ℕ) → often u order ≤ 1) → often v (vis_after order ps) ≡ min 1 (often v order + number v (spaces_in ps))
after order [] v once = let le = once v in omega (arith, le)
after order (p ∷ ps) v once =
    let first = one_more order p.space.vi v once in
    let number_is = number_more v p.space (spaces_in ps) in
    let rest = after (with_vi order p.space.vi) ps v (λ u. let e = one_more order p.space.vi u once in omega (arith, e)) in
    omega (arith, first, number_is, rest)

-- a VI stands there once if it has a data space
pub stands_once : (met : List Placed) (v : ℕ) → often v (vis_after [] met) ≡ min 1 (number v (spaces_in met))
stands_once met v = let e = after [] met v (λ u. omega arith) in omega (arith, e)

pub stands_there : (met : List Placed) (v : ℕ) → 0 < number v (spaces_in met) → has_vi (vis_after [] met) v ≡ true
stands_there met v some = ⊎_elim (λ h. h.0) (λ h. let e = stands_once met v in let none = h.1 in absurd (omega (arith, e, none, some))) (stands (vis_after [] met) v)
