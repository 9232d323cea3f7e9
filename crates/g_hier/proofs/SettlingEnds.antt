-- How the counting begins, and that it ends with the counts.
use Rattle.std.proofs.Common.{◌≡◌, ◌⊎◌, inl, inr, ⊎_elim, ℕ, zero, suc, ◌+◌, ◌<◌, ◌≤◌, Bool, true, false, ◌||◌, ◌==◌, eqb, List, [], ◌∷◌, length, replicate, refl, sym, ap, ◌∙◌, subst, arith}
use Rattle.std.specs.Prelude.{slice_get, slice_index, Some}
use Rattle.std.specs.List.{list_any, IsDistinct, AllByRecursion}
use Rattle.std.proofs.lemmas.Bool.{cases_lt, cases_eq}
use Rattle.std.proofs.lemmas.List.{length-replicate}
use Rattle.std.proofs.lemmas.Map.Steps.{length-le_from_distinct_below}
use Rattle.g_hier.specs.declared.linked.Outline.{Outline}
use Rattle.g_diagram.specs.Leads.{Leads}
use Rattle.g_hier.specs.Outlines.{calls}
use Rattle.g_hier.specs.Counts.{one_if, callers, count_for, counts_for, told}
use Rattle.g_hier.specs.Settling.{times, pushed, all_calls_to, Settling, AreToldCounts}
use Rattle.g_hier.proofs.Numbers.{replicate_at, replicate_le, one_same, one_apart, times_pushed}
use Rattle.g_hier.proofs.Calls.{Calling, callers_some, callers_zero, callers_all}

past : (xs : List ℕ) (v : ℕ) → length xs ≤ v → slice_index xs v ≡ 0
past [] v h = refl
past (x ∷ xs) zero h = absurd (omega arith)
past (x ∷ xs) (suc v) h = past xs v (omega arith)

got_below : (v : ℕ) (ps : List Outline) (p : Outline) → slice_get ps v ≡ Some p → v < length ps
got_below v [] p h = absurd cc
got_below zero (q ∷ ps) p h = omega arith
got_below (suc v) (q ∷ ps) p h = let k = got_below v ps p h in omega (arith, k)

one_none : (n : ℕ) → 0 < n → one_if (n == 0) ≡ 0
one_none n h = one_apart n 0 (λ e. omega (arith, e, h))

pub settling_start : (os : List Outline) (main : ℕ) (w i t r : List ℕ) → length w ≡ length os → length i ≡ length os → length t ≡ length os
    → ((v : ℕ) → v < length os → slice_index w v ≡ all_calls_to v os)
    → ((v : ℕ) → v < length os → slice_index i v ≡ 0)
    → ((v : ℕ) → v < length os → slice_index t v ≡ 0)
    → ((v : ℕ) → v < length w → times v r ≡ one_if (slice_index w v == 0))
    → ((v : ℕ) → length w ≤ v → times v r ≡ 0)
    → Settling os main w i t r
settling_start os main w i t r long_w long_i long_t waits comes none below beyond = record {
  counts = replicate (length os) 0;
  left = replicate (length os) 1;
  long_waiting = long_w;
  long_incoming = long_i;
  long_told = long_t;
  long_counts = length-replicate (length os) 0;
  long_left = length-replicate (length os) 1;
  one_left = λ v. replicate_le (length os) 1 v;
  none_yet = λ v h. zero_at v;
  waiting_is = λ v lt. waits v lt ∙ sym (callers_all v os);
  incoming_is = λ v lt. comes v lt ∙ sym (ap told (callers_zero v os));
  told_is = λ v. told_zero v ∙ sym (ap told (zero_at v));
  settled = λ v o at z. absurd (not_zero v (got_below v os o at) z);
  callers_first = λ v lt z. absurd (not_zero v lt z);
  is_ready = λ v lt z. below v (omega (arith, long_w, lt)) ∙ one_same (slice_index w v) 0 (waits v lt ∙ sym (callers_all v os) ∙ z) ∙ sym (replicate_at (length os) 1 v lt);
  not_ready = λ v lt some. below v (omega (arith, long_w, lt)) ∙ one_none (slice_index w v) (let b = waits v lt in let c = callers_all v os in omega (arith, b, c, some));
  beyond = λ v le. beyond v (omega (arith, long_w, le));
}
  where
    zero_at : (v : ℕ) → slice_index (replicate (length os) 0) v ≡ 0
    zero_at v = let h = replicate_le (length os) 0 v in omega (arith, h)

    told_zero : (v : ℕ) → slice_index t v ≡ 0
    told_zero v = ⊎_elim (none v) (λ le. past t v (omega (arith, long_t, le))) (cases_lt v (length os))

    not_zero : (v : ℕ) → v < length os → slice_index (replicate (length os) 1) v ≡ 0 → ⊥
    not_zero v lt z = let h = replicate_at (length os) 1 v lt in omega (arith, h, z)

-- the VIs that wait for none, one more looked at
module _ (w r s : List ℕ) (k : ℕ) (below : (v : ℕ) → v < k → times v r ≡ one_if (slice_index w v == 0)) (beyond : (v : ℕ) → k ≤ v → times v r ≡ 0)
    (now : s ≡ pushed (slice_index w k) r k) where
  other : (v : ℕ) → (k ≡ v → ⊥) → times v s ≡ times v r
  other v apart =
      let p = times_pushed v (slice_index w k) r k in
      let t = ap (times v) now in
      let o = one_apart k v apart in
      ⊎_elim
      (λ (some : 0 < slice_index w k). t ∙ p.1 some)
      (λ (le : slice_index w k ≤ 0). let q = p.0 (omega (arith, le)) in omega (arith, t, q, o))
      (cases_lt 0 (slice_index w k))

  this : times k s ≡ one_if (slice_index w k == 0)
  this =
      let p = times_pushed k (slice_index w k) r k in
      let t = ap (times k) now in
      let o = one_same k k refl in
      let z = beyond k (omega arith) in
      ⊎_elim
      (λ (some : 0 < slice_index w k). let q = p.1 some in let n = one_none (slice_index w k) some in omega (arith, t, q, z, n))
      (λ (le : slice_index w k ≤ 0). let e : slice_index w k ≡ 0 = omega (arith, le) in let q = p.0 e in let n = one_same (slice_index w k) 0 e in omega (arith, t, q, z, n, o))
      (cases_lt 0 (slice_index w k))

  below_more : (v : ℕ) → v < k + 1 → times v s ≡ one_if (slice_index w v == 0)
  below_more v lt = ⊎_elim
      (λ e. let P : ℕ → Type 0 = λ u. times u s ≡ one_if (slice_index w u == 0) in subst P e this)
      (λ apart. other v apart ∙ below v (let n : v < k = omega (arith, lt, apart) in n))
      (cases_eq k v)

  pub ready_more : ((v : ℕ) → v < k + 1 → times v s ≡ one_if (slice_index w v == 0)) × ((v : ℕ) → k + 1 ≤ v → times v s ≡ 0)
  ready_more = (below_more, λ v le. other v (λ e. omega (arith, e, le)) ∙ beyond v (omega (arith, le)))

-- so many VIs that lead to one
record Ancestors (os : List Outline) (k v : ℕ) : Type 0 where
  all : List ℕ
  long : length all ≡ k
  distinct : IsDistinct eqb all
  lead : (u : ℕ) → list_any (eqb u) all ≡ true → Leads (calls os) u v
  below : (u : ℕ) → list_any (eqb u) all ≡ true → u < length os

or_cases : (a b : Bool) → (a || b) ≡ true → (a ≡ true) ⊎ (b ≡ true)
or_cases true b h = inl refl
or_cases false b h = inr h

same_number : (a b : ℕ) → eqb a b ≡ true → a ≡ b
same_number a b e = grind (arith, e)

module _ (os : List Outline) (acyclic : (v : ℕ) → Leads (calls os) v v → ⊥) (left : List ℕ)
    (stuck : (v : ℕ) → v < length os → 0 < slice_index left v → Calling v os left) where
  none_same : (u : ℕ) (xs : List ℕ) → ((x : ℕ) → list_any (eqb x) xs ≡ true → u ≡ x → ⊥) → AllByRecursion (λ y. eqb u y ≡ false) xs
  none_same u [] h = tt
  none_same u (x ∷ xs) h = (not_same (λ e. h x (here x xs) e), none_same u xs (λ y m. h y (there y x xs m)))
    where
      not_same : (u ≡ x → ⊥) → eqb u x ≡ false
      not_same apart = grind (arith, apart)

      here : (x : ℕ) (xs : List ℕ) → list_any (eqb x) (x ∷ xs) ≡ true
      here x xs = grind arith

      there : (y x : ℕ) (xs : List ℕ) → list_any (eqb y) xs ≡ true → list_any (eqb y) (x ∷ xs) ≡ true
      there y x xs m = grind (arith, m)

  -- each VI that is left is called by one that is left
  ancestors : (k v : ℕ) → v < length os → 0 < slice_index left v → Ancestors os k v
  unfolding IsDistinct
  ancestors zero v lt some = record { all = []; long = refl; distinct = tt; lead = λ u h. absurd cc; below = λ u h. absurd cc }
  ancestors (suc k) v lt some =
      let c : Calling v os left = stuck v lt some in
      let a : Ancestors os k c.vi = ancestors k c.vi c.below c.some in
      record {
        all = c.vi ∷ a.all;
        long = ap suc a.long;
        distinct = (none_same c.vi a.all (λ x m e. let P : ℕ → Type 0 = λ y. Leads (calls os) y c.vi in acyclic c.vi (subst P (sym e) (a.lead x m))), a.distinct);
        lead = λ u h. ⊎_elim
            (λ e. let P : ℕ → Type 0 = λ y. Leads (calls os) y v in subst P (sym (same_number u c.vi e)) (0, c.edge))
            (λ m. let l = a.lead u m in (suc l.0, (c.vi, l.1, c.edge)))
            (or_cases (eqb u c.vi) (list_any (eqb u) a.all) h);
        below = λ u h. ⊎_elim
            (λ e. let P : ℕ → Type 0 = λ y. y < length os in subst P (sym (same_number u c.vi e)) c.below)
            (λ m. a.below u m)
            (or_cases (eqb u c.vi) (list_any (eqb u) a.all) h);
      }

  pub none_left : (v : ℕ) → v < length os → 0 < slice_index left v → ⊥
  none_left v lt some =
      let a : Ancestors os (suc (length os)) v = ancestors (suc (length os)) v lt some in
      let h = length-le_from_distinct_below a.all (length os) a.distinct a.below in
      let l = a.long in
      omega (arith, h, l)

-- counts that are right one by one are right
counts_are : (all : List Outline) (main : ℕ) (counts : List ℕ) (vi : ℕ) (os : List Outline) (ns : List ℕ) → length ns ≡ length os
    → ((j : ℕ) (o : Outline) → slice_get os j ≡ Some o → slice_index ns j ≡ count_for ((vi + j) == main) o.clones (callers (vi + j) all counts))
    → ns ≡ counts_for all main counts vi os
counts_are all main counts vi [] [] len each = refl
counts_are all main counts vi [] (n ∷ ns) len each = absurd (omega (arith, len))
counts_are all main counts vi (o ∷ os) [] len each = absurd (omega (arith, len))
counts_are all main counts vi (o ∷ os) (n ∷ ns) len each =
    let e : vi + 0 ≡ vi = omega arith in
    let first : n ≡ count_for (vi == main) o.clones (callers vi all counts) = each 0 o refl ∙ ap (λ v. count_for (v == main) o.clones (callers v all counts)) e in
    ap (λ m. m ∷ ns) first
    ∙ ap (λ ms. count_for (vi == main) o.clones (callers vi all counts) ∷ ms)
    (counts_are all main counts (suc vi) os ns (omega (arith, len)) (λ j p at.
    let f : vi + suc j ≡ suc vi + j = omega arith in
    each (suc j) p at ∙ ap (λ v. count_for (v == main) p.clones (callers v all counts)) f))

pub settling_end : (os : List Outline) (main : ℕ) (w i t r : List ℕ) → ((v : ℕ) → Leads (calls os) v v → ⊥) → Settling os main w i t r → length r ≡ 0 → AreToldCounts os main t
settling_end os main w i t r acyclic f e = record {
  counts = f.counts;
  long_counts = f.long_counts;
  are = counts_are os main f.counts 0 os f.counts f.long_counts (λ j o at. let e : 0 + j ≡ j = omega arith in
      f.settled j o at (all_settled j (got_below j os o at)) ∙ ap (λ v. count_for (v == main) o.clones (callers v os f.counts)) (sym e));
  long = f.long_told;
  told_is = f.told_is;
}
  where
    no_times : (v : ℕ) (xs : List ℕ) → length xs ≡ 0 → times v xs ≡ 0
    no_times v [] h = refl
    no_times v (x ∷ xs) h = absurd (omega (arith, h))

    stuck : (v : ℕ) → v < length os → 0 < slice_index f.left v → Calling v os f.left
    stuck v lt some = ⊎_elim
        (λ (more : 0 < callers v os f.left). callers_some v os f.left more)
        (λ (le : callers v os f.left ≤ 0). let h = f.is_ready v lt (omega (arith, le)) in let n = no_times v r e in absurd (omega (arith, h, some, n)))
        (cases_lt 0 (callers v os f.left))

    all_settled : (v : ℕ) → v < length os → slice_index f.left v ≡ 0
    all_settled v lt = ⊎_elim
        (λ (some : 0 < slice_index f.left v). absurd (none_left os acyclic f.left stuck v lt some))
        (λ (le : slice_index f.left v ≤ 0). omega (arith, le))
        (cases_lt 0 (slice_index f.left v))
