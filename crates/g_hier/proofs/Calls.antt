-- Call lines, counted.
use Rattle.std.proofs.Common.{◌≡◌, ⊎_elim, ℕ, zero, suc, ◌+◌, ◌*◌, ◌<◌, ◌≤◌, Bool, true, false, ◌||◌, ◌==◌, List, [], ◌∷◌, length, get_or, take, replicate, All, refl, sym, ap, ◌∙◌, subst, arith}
use Rattle.std.specs.Prelude.{slice_get, slice_index, slice_set, Some}
use Rattle.std.proofs.lemmas.Bool.{cases_lt}
use Rattle.std.proofs.lemmas.List.Elements.{All-head, All-tail}
use Rattle.g_hier.specs.declared.linked.CallLine.{CallLine}
use Rattle.g_hier.specs.declared.linked.Outline.{Outline}
use Rattle.g_hier.specs.Outlines.{calls, has_call}
use Rattle.g_hier.specs.Counts.{one_if, calls_to, callers, nodes_in}
use Rattle.g_hier.specs.Settling.{all_calls_to}
use Rattle.g_hier.proofs.Numbers.{one_same, one_apart, set_at}

pub calls_more : (v : ℕ) (cs : List CallLine) (i : ℕ) (d : CallLine) → i < length cs → calls_to v (take (i + 1) cs) ≡ calls_to v (take i cs) + one_if ((get_or cs i d).vi == v)
calls_more v [] i d lt = absurd (omega arith)
calls_more v (c ∷ cs) zero d lt = omega arith
calls_more v (c ∷ cs) (suc i) d lt =
    let e : suc i + 1 ≡ suc (i + 1) = omega arith in
    ap (λ n. calls_to v (take n (c ∷ cs))) e ∙ ap (λ n. one_if (c.vi == v) + n) (calls_more v cs i d (omega arith)) ∙ omega arith

pub calls_fewer : (v : ℕ) (cs : List CallLine) (i : ℕ) (d : CallLine) → i < length cs → calls_to v (take i cs) + one_if ((get_or cs i d).vi == v) ≤ calls_to v cs
calls_fewer v [] i d lt = absurd (omega arith)
calls_fewer v (c ∷ cs) zero d lt = omega arith
calls_fewer v (c ∷ cs) (suc i) d lt = omega (arith, calls_fewer v cs i d (omega arith))

pub all_calls_more : (v : ℕ) (os : List Outline) (i : ℕ) (d : Outline) → i < length os → all_calls_to v (take (i + 1) os) ≡ all_calls_to v (take i os) + calls_to v (get_or os i d).calls
all_calls_more v [] i d lt = absurd (omega arith)
all_calls_more v (o ∷ os) zero d lt = omega arith
all_calls_more v (o ∷ os) (suc i) d lt =
    let e : suc i + 1 ≡ suc (i + 1) = omega arith in
    ap (λ n. all_calls_to v (take n (o ∷ os))) e ∙ ap (λ n. calls_to v o.calls + n) (all_calls_more v os i d (omega arith)) ∙ omega arith

swap : (a b c : ℕ) → (a + b) + c ≡ (c + b) + a
swap a b c = omega arith

move : (n m p q r s : ℕ) → p + q ≡ r + s → (n + p) + q ≡ (n + r) + s
move n m p q r s e = omega arith

-- what a changed count changes
pub callers_set : (v : ℕ) (os : List Outline) (ns : List ℕ) (x b : ℕ) (o : Outline) → length ns ≡ length os → slice_get os x ≡ Some o
    → callers v os (slice_set ns x b) + slice_index ns x * calls_to v o.calls ≡ callers v os ns + b * calls_to v o.calls
callers_set v [] ns x b o len at = absurd cc
callers_set v (p ∷ os) [] x b o len at = absurd (omega (arith, len))
callers_set v (p ∷ os) (n ∷ ns) zero b o len at =
    let same : p ≡ o = cc in
    let P : Outline → Type 0 = λ q. (b * calls_to v p.calls + callers v os ns) + n * calls_to v q.calls ≡ (n * calls_to v p.calls + callers v os ns) + b * calls_to v q.calls in
    subst P same (swap (b * calls_to v p.calls) (callers v os ns) (n * calls_to v p.calls))
callers_set v (p ∷ os) (n ∷ ns) (suc x) b o len at =
    move (n * calls_to v p.calls) 0 (callers v os (slice_set ns x b)) (slice_index ns x * calls_to v o.calls) (callers v os ns) (b * calls_to v o.calls)
    (callers_set v os ns x b o (omega (arith, len)) at)

pub callers_zero : (v : ℕ) (os : List Outline) → callers v os (replicate (length os) 0) ≡ 0
callers_zero v [] = refl
callers_zero v (o ∷ os) = omega (arith, callers_zero v os)

pub callers_all : (v : ℕ) (os : List Outline) → callers v os (replicate (length os) 1) ≡ all_calls_to v os
callers_all v [] = refl
callers_all v (o ∷ os) = omega (arith, callers_all v os)

-- a VI with a call line to v, of which some data space was counted
pub record Calling (v : ℕ) (os : List Outline) (ns : List ℕ) : Type 0 where
  pub vi : ℕ
  pub below : vi < length os
  pub some : 0 < slice_index ns vi
  pub edge : calls os vi v ≡ true

some_call : (v : ℕ) (cs : List CallLine) → 0 < calls_to v cs → has_call v cs ≡ true
some_call v [] h = absurd (omega arith)
some_call v (c ∷ cs) h = first (c.vi == v) h (some_call v cs)
  where
    first : (b : Bool) → 0 < one_if b + calls_to v cs → (0 < calls_to v cs → has_call v cs ≡ true) → (b || has_call v cs) ≡ true
    first true h more = refl
    first false h more = more (omega arith)

some_product : (n k : ℕ) → 0 < n * k → (0 < n) × (0 < k)
some_product zero k h = absurd (omega arith)
some_product (suc n) zero h = absurd (omega arith)
some_product (suc n) (suc k) h = (omega arith, omega arith)

pub callers_some : (v : ℕ) (os : List Outline) (ns : List ℕ) → 0 < callers v os ns → Calling v os ns
callers_some v [] ns h = absurd (omega arith)
callers_some v (o ∷ os) [] h = absurd (omega arith)
callers_some v (o ∷ os) (n ∷ ns) h = ⊎_elim
    (λ some. let both = some_product n (calls_to v o.calls) some in record { vi = 0; below = omega arith; some = both.0; edge = some_call v o.calls both.1 })
    (λ none. let more = callers_some v os ns (omega arith) in record { vi = suc more.vi; below = let lt = more.below in omega arith; some = more.some; edge = more.edge })
    (cases_lt 0 (n * calls_to v o.calls))

pub nodes_more : (os : List Outline) (ns : List ℕ) (i : ℕ) (d : Outline) → i < length os → length ns ≡ length os
    → nodes_in (take (i + 1) os) (take (i + 1) ns) ≡ nodes_in (take i os) (take i ns) + slice_index ns i * (get_or os i d).nodes
nodes_more [] ns i d lt len = absurd (omega arith)
nodes_more (o ∷ os) [] i d lt len = absurd (omega (arith, len))
nodes_more (o ∷ os) (n ∷ ns) zero d lt len = omega arith
nodes_more (o ∷ os) (n ∷ ns) (suc i) d lt len =
    let e : suc i + 1 ≡ suc (i + 1) = omega arith in
    ap (λ k. nodes_in (take k (o ∷ os)) (take k (n ∷ ns))) e
    ∙ ap (λ k. n * o.nodes + k) (nodes_more os ns i d (omega arith) (omega (arith, len)))
    ∙ assoc (n * o.nodes) (nodes_in (take i os) (take i ns)) (slice_index ns i * (get_or os i d).nodes)
  where
    assoc : (a b c : ℕ) → a + (b + c) ≡ (a + b) + c
    assoc a b c = omega arith

-- one more call line to a VI that is waited for
pub awaited_more : (w x y : List ℕ) (cs ds : List CallLine) (u : ℕ) → u < length x → ((v : ℕ) → v < length w → slice_index x v ≡ slice_index w v + calls_to v cs)
    → ((v : ℕ) → calls_to v ds ≡ calls_to v cs + one_if (u == v)) → y ≡ slice_set x u (slice_index x u + 1)
    → (v : ℕ) → v < length w → slice_index y v ≡ slice_index w v + calls_to v ds
awaited_more w x y cs ds u within before more now v lt =
    let a = before v lt in
    let b = more v in
    let P : List ℕ → Type 0 = λ l. slice_index l v ≡ slice_index w v + calls_to v ds in
    subst P (sym now) (⊎_elim
    (λ h. let d = one_same u v (sym h.0) in let e : slice_index x v ≡ slice_index x u = ap (slice_index x) h.0 in let k = h.1 in omega (arith, a, b, d, e, k))
    (λ h. let d = one_apart u v (λ e. h.0 (sym e)) in let k = h.1 in omega (arith, a, b, d, k))
    (set_at x u (slice_index x u + 1) v within))

-- no call line calls a VI that isn't there
pub no_calls : (n : ℕ) (cs : List CallLine) → All (λ c. c.vi < n) cs → (v : ℕ) → n ≤ v → calls_to v cs ≡ 0
no_calls n [] h v le = refl
no_calls n (c ∷ cs) h v le =
    let a = All-head (λ (d : CallLine). d.vi < n) c cs h in
    let b = one_apart c.vi v (λ e. absurd (omega (arith, a, e, le))) in
    let d = no_calls n cs (All-tail (λ (d : CallLine). d.vi < n) c cs h) v le in
    omega (arith, b, d)
