-- Where no VI reaches itself there is one list of counts.
use Rattle.std.proofs.Common.{◌≡◌, ⊎_elim, ℕ, zero, suc, ◌+◌, ◌*◌, ◌<◌, ◌≤◌, Bool, true, false, ◌==◌, List, [], ◌∷◌, length, refl, sym, ap, ◌∙◌, arith}
use Rattle.std.specs.Prelude.{slice_get, slice_index, Some}
use Rattle.std.proofs.lemmas.Bool.{cases_lt}
use Rattle.g_graph.proofs.Search.{same_number}
use Rattle.g_diagram.specs.Leads.{Leads}
use Rattle.g_hier.specs.declared.linked.Outline.{Outline}
use Rattle.g_hier.specs.Outlines.{calls}
use Rattle.g_hier.specs.Counts.{calls_to, callers, count_for, counts_for, AreCounts}
use Rattle.g_hier.proofs.Calls.{Calling, callers_some}
use Rattle.g_hier.proofs.SettlingEnds.{none_left}

abbrev differ_if : Bool → ℕ
differ_if true = 0
differ_if false = 1

-- 1 where two lists of numbers differ
abbrev differs : (ns ms : List ℕ) → List ℕ
differs [] ms = []
differs (n ∷ ns) [] = []
differs (n ∷ ns) (m ∷ ms) = differ_if (n == m) ∷ differs ns ms

-- VIs that as many call lines call
callers_same : (v : ℕ) (os : List Outline) (ns ms : List ℕ) → length ns ≡ length os → length ms ≡ length os → callers v os (differs ns ms) ≡ 0 → callers v os ns ≡ callers v os ms
callers_same v [] ns ms en em e = refl
callers_same v (o ∷ os) [] ms en em e = absurd (omega (arith, en))
callers_same v (o ∷ os) (n ∷ ns) [] en em e = absurd (omega (arith, em))
callers_same v (o ∷ os) (n ∷ ns) (m ∷ ms) en em e =
    let k : ℕ = calls_to v o.calls in
    let rest : callers v os (differs ns ms) ≡ 0 = omega (arith, e) in
    let here : differ_if (n == m) * k ≡ 0 = omega (arith, e) in
    let more = callers_same v os ns ms (omega (arith, en)) (omega (arith, em)) rest in
    let one : n * k ≡ m * k = choose (n == m) k refl here in
    omega (arith, one, more)
  where
    choose : (b : Bool) (k : ℕ) → (n == m) ≡ b → differ_if b * k ≡ 0 → n * k ≡ m * k
    choose true k f h = ap (λ x. x * k) (same_number n m f)
    choose false k f h = let z : k ≡ 0 = omega (arith, h) in ap (λ x. n * x) z ∙ nothing n m ∙ ap (λ x. m * x) (sym z)
      where
        nothing : (a b : ℕ) → a * 0 ≡ b * 0
        nothing a b = omega arith

-- each count is that of its VI
count_at : (all : List Outline) (main : ℕ) (counts : List ℕ) (vi : ℕ) (os : List Outline) (j : ℕ) (o : Outline) → slice_get os j ≡ Some o
    → slice_index (counts_for all main counts vi os) j ≡ count_for ((vi + j) == main) o.clones (callers (vi + j) all counts)
count_at all main counts vi [] j o h = absurd cc
count_at all main counts vi (p ∷ os) zero o h =
    let same : p ≡ o = cc in
    let e : vi ≡ vi + 0 = omega arith in
    ap (λ (q : Outline). count_for (vi == main) q.clones (callers vi all counts)) same ∙ ap (λ v. count_for (v == main) o.clones (callers v all counts)) e
count_at all main counts vi (p ∷ os) (suc j) o h =
    let e : suc vi + j ≡ vi + suc j = omega arith in
    count_at all main counts (suc vi) os j o h ∙ ap (λ v. count_for (v == main) o.clones (callers v all counts)) e

length_counts : (all : List Outline) (main : ℕ) (counts : List ℕ) (vi : ℕ) (os : List Outline) → length (counts_for all main counts vi os) ≡ length os
length_counts all main counts vi [] = refl
length_counts all main counts vi (o ∷ os) = ap suc (length_counts all main counts (suc vi) os)

no_difference : (ns ms : List ℕ) (v : ℕ) → slice_index ns v ≡ slice_index ms v → 0 < slice_index (differs ns ms) v → ⊥
no_difference [] ms v e h = omega (arith, h)
no_difference (n ∷ ns) [] v e h = omega (arith, h)
no_difference (n ∷ ns) (m ∷ ms) zero e h = let k : (n == m) ≡ true = grind (arith, e) in let z : differ_if (n == m) ≡ 0 = ap differ_if k in omega (arith, z, h)
no_difference (n ∷ ns) (m ∷ ms) (suc v) e h = no_difference ns ms v e h

same_lists : (ns ms : List ℕ) → length ns ≡ length ms → ((v : ℕ) → v < length ns → 0 < slice_index (differs ns ms) v → ⊥) → ns ≡ ms
same_lists [] [] e h = refl
same_lists [] (m ∷ ms) e h = absurd (omega (arith, e))
same_lists (n ∷ ns) [] e h = absurd (omega (arith, e))
same_lists (n ∷ ns) (m ∷ ms) e h =
    ap (λ x. x ∷ ns) (choose (n == m) refl (h 0 (omega arith)))
    ∙ ap (λ xs. m ∷ xs) (same_lists ns ms (omega (arith, e)) (λ v lt some. h (suc v) (omega (arith, lt)) some))
  where
    choose : (b : Bool) → (n == m) ≡ b → (0 < differ_if b → ⊥) → n ≡ m
    choose true k none = same_number n m k
    choose false k none = absurd (none (omega arith))

got : (os : List Outline) (v : ℕ) → v < length os → (o : Outline) × (slice_get os v ≡ Some o)
got [] v lt = absurd (omega arith)
got (o ∷ os) zero lt = (o, refl)
got (o ∷ os) (suc v) lt = got os v (omega arith)

pub counts_only : (os : List Outline) (main : ℕ) (ns ms : List ℕ) → ((v : ℕ) → Leads (calls os) v v → ⊥) → AreCounts os main ns → AreCounts os main ms → ns ≡ ms
counts_only os main ns ms acyclic an am = same_lists ns ms (long_n ∙ sym long_m) (λ v lt. none_left os acyclic (differs ns ms) stuck v (let e = long_n in omega (arith, e, lt)))
  where
    long_n : length ns ≡ length os
    long_n = ap length an ∙ length_counts os main ns 0 os

    long_m : length ms ≡ length os
    long_m = ap length am ∙ length_counts os main ms 0 os

    count_is : (xs : List ℕ) → AreCounts os main xs → (v : ℕ) (o : Outline) → slice_get os v ≡ Some o → slice_index xs v ≡ count_for (v == main) o.clones (callers v os xs)
    count_is xs a v o h =
        let e : 0 + v ≡ v = omega arith in
        ap (λ ys. slice_index ys v) a ∙ count_at os main xs 0 os v o h ∙ ap (λ u. count_for (u == main) o.clones (callers u os xs)) e

    stuck : (v : ℕ) → v < length os → 0 < slice_index (differs ns ms) v → Calling v os (differs ns ms)
    stuck v lt some = ⊎_elim
        (λ (more : 0 < callers v os (differs ns ms)). callers_some v os (differs ns ms) more)
        (λ (le : callers v os (differs ns ms) ≤ 0).
        let g = got os v lt in
        let same = callers_same v os ns ms long_n long_m (omega (arith, le)) in
        absurd (no_difference ns ms v (count_is ns an v g.0 g.1 ∙ ap (count_for (v == main) g.0.clones) same ∙ sym (count_is ms am v g.0 g.1)) some))
        (cases_lt 0 (callers v os (differs ns ms)))
