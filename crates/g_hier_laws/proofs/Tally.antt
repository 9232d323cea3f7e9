-- How many data spaces each VI has, as a list of counts, and what is summed over them.
use Rattle.std.proofs.Common.{◌≡◌, ℕ, zero, suc, ◌+◌, ◌*◌, ◌<◌, ◌≤◌, ◌==◌, Bool, true, false, cond, List, [], ◌∷◌, filter, length, Option, Some, None, refl, ap, ap₂, ◌∙◌, sym, subst, arith}
use Rattle.std.specs.Prelude.{slice_get, slice_index}
use Rattle.std.specs.List.{sum_by}
use Rattle.std.proofs.lemmas.List.Sums.{sum_by-cons}
use Rattle.g_hier.specs.declared.linked.Outline.{Outline}
use Rattle.g_hier.specs.declared.linked.Space.{Space}
use Rattle.g_hier.specs.Counts.{one_if, calls_to, callers, count_for, counts_for, nodes_in}
use Rattle.g_hier.specs.Outlines.{calls_in, calls_at}
use Rattle.g_hier.proofs.Numbers.{one_same, one_apart}
use Rattle.g_hier_laws.specs.Counted.{nodes_at, nodes_over}
use Rattle.g_hier_laws.proofs.Spaces.{number}
use Rattle.g_hier_laws.proofs.Callers.{calls_from}

pub number_more : (v : ℕ) (s : Space) (spaces : List Space) → number v (s ∷ spaces) ≡ one_if (s.vi == v) + number v spaces
number_more v s spaces = by (s.vi == v)
  where
    by : (b : Bool) → length (cond b (s ∷ filter (λ t. t.vi == v) spaces) (filter (λ t. t.vi == v) spaces)) ≡ one_if b + number v spaces
    by true = omega arith
    by false = omega arith

-- the counts of the VIs from one on
abbrev pub tally : List Space → (vi : ℕ) → List Outline → List ℕ
tally spaces k [] = []
tally spaces k (o ∷ os) = number k spaces ∷ tally spaces (suc k) os

-- what VIs have, each as often as is counted
abbrev weigh : (Outline → ℕ) → List Outline → (counts : List ℕ) → ℕ
weigh w [] ns = 0
weigh w (o ∷ os) [] = 0
weigh w (o ∷ os) (n ∷ ns) = n * w o + weigh w os ns

abbrev weight : (Outline → ℕ) → Option Outline → ℕ
weight w None = 0
weight w (Some o) = w o

callers_weigh : (v : ℕ) (os : List Outline) (ns : List ℕ) → callers v os ns ≡ weigh (λ o. calls_to v o.calls) os ns
callers_weigh v [] ns = refl
callers_weigh v (o ∷ os) [] = refl
callers_weigh v (o ∷ os) (n ∷ ns) = ap (λ m. n * calls_to v o.calls + m) (callers_weigh v os ns)

nodes_weigh : (os : List Outline) (ns : List ℕ) → nodes_in os ns ≡ weigh (λ o. o.nodes) os ns
nodes_weigh [] ns = refl
nodes_weigh (o ∷ os) [] = refl
nodes_weigh (o ∷ os) (n ∷ ns) = ap (λ m. n * o.nodes + m) (nodes_weigh os ns)

-- one more data space

others_same : (v : ℕ) (s : Space) (spaces : List Space) → (s.vi ≡ v → ⊥) → number v (s ∷ spaces) ≡ number v spaces
others_same v s spaces apart = let more = number_more v s spaces in let zero = one_apart s.vi v apart in omega (arith, more, zero)

sum_one : (n w m : ℕ) → suc n * w + m ≡ w + (n * w + m)
sum_one n w m = omega arith

sum_later : (n w m x : ℕ) → n * w + (x + m) ≡ x + (n * w + m)
sum_later n w m x = omega arith

module _ (w : Outline → ℕ) (s : Space) (spaces : List Space) where
  later_same : (k : ℕ) (os : List Outline) → s.vi < k → weigh w os (tally (s ∷ spaces) k os) ≡ weigh w os (tally spaces k os)
  later_same k [] lt = refl
  later_same k (o ∷ os) lt = ap₂ (λ n m. n * w o + m) (others_same k s spaces (λ e. absurd (omega (arith, e, lt)))) (later_same (suc k) os (omega (arith, lt)))

  weighed_at : (k j : ℕ) (os : List Outline) → s.vi ≡ k + j → weigh w os (tally (s ∷ spaces) k os) ≡ weight w (slice_get os j) + weigh w os (tally spaces k os)
  weighed_at k j [] e = refl
  weighed_at k zero (o ∷ os) e =
      let more = number_more k s spaces in
      let one = one_same s.vi k (omega (arith, e)) in
      let here : number k (s ∷ spaces) ≡ suc (number k spaces) = omega (arith, more, one) in
      ap₂ (λ n m. n * w o + m) here (later_same (suc k) os (omega (arith, e))) ∙ sum_one (number k spaces) (w o) (weigh w os (tally spaces (suc k) os))
  weighed_at k (suc j) (o ∷ os) e =
      ap₂ (λ n m. n * w o + m) (others_same k s spaces (λ f. absurd (omega (arith, e, f)))) (weighed_at (suc k) j os (omega (arith, e)))
      ∙ sum_later (number k spaces) (w o) (weigh w os (tally spaces (suc k) os)) (weight w (slice_get os j))

-- over all data spaces
weighed : (w : Outline → ℕ) (f : ℕ → ℕ) (os : List Outline) → ((u : ℕ) → f u ≡ weight w (slice_get os u)) → (spaces : List Space) → weigh w os (tally spaces 0 os) ≡ sum_by (λ s. f s.vi) spaces
weighed w f os is [] = none 0 os
  where
    none : (k : ℕ) (ps : List Outline) → weigh w ps (tally [] k ps) ≡ 0
    none k [] = refl
    none k (o ∷ ps) = omega (arith, none (suc k) ps)
weighed w f os is (s ∷ spaces) =
    weighed_at w s spaces 0 s.vi os (omega arith) ∙ ap₂ (λ n m. n + m) (sym (is s.vi)) (weighed w f os is spaces) ∙ sym (sum_by-cons (λ (t : Space). f t.vi) s spaces)

pub callers_tally : (v : ℕ) (os : List Outline) (spaces : List Space) → callers v os (tally spaces 0 os) ≡ calls_from os v spaces
callers_tally v os spaces = callers_weigh v os (tally spaces 0 os) ∙ weighed (λ o. calls_to v o.calls) (λ u. calls_to v (calls_at os u)) os (λ u. of (slice_get os u)) spaces
  where
    of : (x : Option Outline) → calls_to v (calls_in x) ≡ weight (λ o. calls_to v o.calls) x
    of None = refl
    of (Some o) = refl

pub nodes_tally : (os : List Outline) (spaces : List Space) → nodes_in os (tally spaces 0 os) ≡ nodes_over os spaces
nodes_tally os spaces = nodes_weigh os (tally spaces 0 os) ∙ weighed (λ o. o.nodes) (nodes_at os) os (of os) spaces
  where
    of : (ps : List Outline) (u : ℕ) → nodes_at ps u ≡ weight (λ o. o.nodes) (slice_get ps u)
    of [] u = refl
    of (o ∷ ps) zero = refl
    of (o ∷ ps) (suc u) = of ps u

-- the count of a VI
pub tally_at : (spaces : List Space) (k : ℕ) (os : List Outline) (j : ℕ) → (length os ≤ j → number (k + j) spaces ≡ 0) → slice_index (tally spaces k os) j ≡ number (k + j) spaces
tally_at spaces k [] j beyond = sym (beyond (omega arith))
tally_at spaces k (o ∷ os) zero beyond = let e : k ≡ k + 0 = omega arith in ap (λ v. number v spaces) e
tally_at spaces k (o ∷ os) (suc j) beyond =
    let e : suc k + j ≡ k + suc j = omega arith in
    tally_at spaces (suc k) os j (λ le. ap (λ v. number v spaces) e ∙ beyond (omega (arith, le))) ∙ ap (λ v. number v spaces) e

-- counts that give themselves
pub tally_counts : (all : List Outline) (main : ℕ) (counts : List ℕ) (spaces : List Space) (k : ℕ) (os : List Outline)
    → ((j : ℕ) (o : Outline) → slice_get os j ≡ Some o → number (k + j) spaces ≡ count_for ((k + j) == main) o.clones (callers (k + j) all counts)) → tally spaces k os ≡ counts_for all main counts k os
tally_counts all main counts spaces k [] is = refl
tally_counts all main counts spaces k (o ∷ os) is =
    let e : k + 0 ≡ k = omega arith in
    let P : ℕ → Type 0 = λ v. number v spaces ≡ count_for (v == main) o.clones (callers v all counts) in
    ap₂ (λ n ns. n ∷ ns) (subst P e (is 0 o refl))
    (tally_counts all main counts spaces (suc k) os
    (λ j p at.
    let f : k + suc j ≡ suc k + j = omega arith in
    let Q : ℕ → Type 0 = λ v. number v spaces ≡ count_for (v == main) p.clones (callers v all counts) in
    subst Q f (is (suc j) p at)))
