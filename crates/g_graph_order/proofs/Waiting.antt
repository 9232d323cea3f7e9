-- Edges that are left.
use Rattle.std.proofs.Common.{◌≡◌, ◌⊎◌, inl, inr, ⊎_elim, ℕ, zero, suc, ◌+◌, ◌<◌, ◌≤◌, Bool, true, false, cond, ◌||◌, ◌==◌, List, [], ◌∷◌, ◌++◌, length, refl, sym, ap, ◌∙◌, arith}
use Rattle.std.proofs.lemmas.List.Sums.{sum_by-cons, sum_by_push}
use Rattle.g_graph.specs.Graph.{Graph, has}
use Rattle.g_graph_order.specs.Order.{times, waits_from, row_at}

pub times-cons : (x : ℕ) (xs : List ℕ) (b : ℕ) → times (x ∷ xs) b ≡ cond (x == b) 1 0 + times xs b
times-cons x xs b = sum_by-cons (λ c. cond (c == b) 1 0) x xs

pub times_push : (xs : List ℕ) (v b : ℕ) → times (xs ++ v ∷ []) b ≡ times xs b + cond (v == b) 1 0
times_push xs v b = sum_by_push (λ c. cond (c == b) 1 0) xs v

-- what stands in a list stands in it at least once
absent_first : (x b : ℕ) (n : ℕ) → cond (x == b) 1 0 + n ≡ 0 → (x == b ≡ false) × (n ≡ 0)
absent_first x b n e = by (x == b) e
  where
    by : (t : Bool) → cond t 1 0 + n ≡ 0 → (t ≡ false) × (n ≡ 0)
    by true e = absurd (omega (arith, e))
    by false e = (refl, omega (arith, e))

pub absent : (xs : List ℕ) (b : ℕ) → times xs b ≡ 0 → has xs b ≡ false
absent [] b e = refl
absent (x ∷ xs) b e =
    let parts = absent_first x b (times xs b) (sym (times-cons x xs b) ∙ e) in
    ap (λ t. t || has xs b) parts.0 ∙ absent xs b parts.1

not_in_first : (s t : Bool) (n : ℕ) → (s || t) ≡ false → (t ≡ false → n ≡ 0) → cond s 1 0 + n ≡ 0
not_in_first true t n e rest = absurd cc
not_in_first false t n e rest = let z = rest e in omega (arith, z)

pub none_of : (xs : List ℕ) (b : ℕ) → has xs b ≡ false → times xs b ≡ 0
none_of [] b e = refl
none_of (x ∷ xs) b e = times-cons x xs b ∙ not_in_first (x == b) (has xs b) (times xs b) e (none_of xs b)

-- ---- what is left where one more node is in the order

waits_step : (t : Bool) (m n k : ℕ) → t ≡ true → m ≡ n → cond t 0 k + m ≡ n
waits_step t m n k e f = ap (λ x. cond x 0 k + m) e ∙ omega (arith, f)

pub waits_same : (old new : List ℕ) (b k : ℕ) (g : Graph) → ((x : ℕ) → k ≤ x → has new x ≡ has old x) → waits_from new k g b ≡ waits_from old k g b
waits_same old new b k [] same = refl
waits_same old new b k (row ∷ rows) same =
    ap (λ t. cond t 0 (times row.items b) + waits_from new (k + 1) rows b) (same k (omega arith))
    ∙ ap (λ n. cond (has old k) 0 (times row.items b) + n) (waits_same old new b (k + 1) rows (λ x le. same x (omega (arith, le))))

later : (s t : Bool) → t ≡ false → (s || t) ≡ s
later true t e = refl
later false t e = e

apart : (v x : ℕ) → v < x → (v == x) ≡ false
apart v x lt = grind (arith, lt)

here : (v x : ℕ) → v ≡ x → (v == x) ≡ true
here v x e = grind (arith, e)

or_here : (s t : Bool) → t ≡ true → (s || t) ≡ true
or_here true t e = refl
or_here false t e = e

add_first : (t : Bool) (m n r k : ℕ) → m ≡ n + r → cond t 0 k + m ≡ (cond t 0 k + n) + r
add_first true m n r k e = omega (arith, e)
add_first false m n r k e = omega (arith, e)

module _ (old new : List ℕ) (b v : ℕ) (more : (x : ℕ) → has new x ≡ (has old x || (v == x))) (fresh : has old v ≡ false) where
  pub waits_at : (g : Graph) (k j : ℕ) → v ≡ k + j → waits_from old k g b ≡ waits_from new k g b + times (row_at g j) b
  waits_at [] k j e = refl
  waits_at (row ∷ rows) k zero e =
      let was : has old k ≡ false = ap (has old) (sym (e ∙ omega arith)) ∙ fresh in
      let is : has new k ≡ true = more k ∙ or_here (has old k) (v == k) (here v k (e ∙ omega arith)) in
      let same = waits_same old new b (k + 1) rows (λ x le. more x ∙ later (has old x) (v == x) (apart v x (omega (arith, e, le)))) in
      ap (λ t. cond t 0 (times row.items b) + waits_from old (k + 1) rows b) was
      ∙ omega (arith, same, ap (λ t. cond t 0 (times row.items b) + waits_from new (k + 1) rows b) is)
  waits_at (row ∷ rows) k (suc j) e =
      let rest = waits_at rows (k + 1) j (e ∙ omega arith) in
      add_first (has old k) (waits_from old (k + 1) rows b) (waits_from new (k + 1) rows b) (times (row_at rows j) b) (times row.items b) rest
      ∙ ap (λ t. (cond t 0 (times row.items b) + waits_from new (k + 1) rows b) + times (row_at rows j) b) (same k e)
    where
      differs : (k : ℕ) → v ≡ k + suc j → (v == k) ≡ false
      differs k e = grind (arith, e)

      same : (k : ℕ) → v ≡ k + suc j → has old k ≡ has new k
      same k e = sym (more k ∙ later (has old k) (v == k) (differs k e))

-- ---- edges from nodes that aren't in the order

none_here : (t : Bool) (m n : ℕ) → cond t 0 m + n ≡ 0 → (t ≡ false → m ≡ 0) × (n ≡ 0)
none_here true m n e = (λ h. absurd cc, omega (arith, e))
none_here false m n e = (λ h. omega (arith, e), omega (arith, e))

-- no edge is left
pub waits_none : (nodes : List ℕ) (b : ℕ) (g : Graph) (k j : ℕ) → waits_from nodes k g b ≡ 0 → has nodes (k + j) ≡ false → has (row_at g j) b ≡ false
waits_none nodes b [] k j e h = refl
waits_none nodes b (row ∷ rows) k zero e h =
    let parts = none_here (has nodes k) (times row.items b) (waits_from nodes (k + 1) rows b) e in
    let at : k + 0 ≡ k = omega arith in
    absent row.items b (parts.0 (ap (has nodes) (sym at) ∙ h))
waits_none nodes b (row ∷ rows) k (suc j) e h =
    let parts = none_here (has nodes k) (times row.items b) (waits_from nodes (k + 1) rows b) e in
    let at : (k + 1) + j ≡ k + suc j = omega arith in
    waits_none nodes b rows (k + 1) j parts.1 (ap (has nodes) at ∙ h)

-- an edge that is left
pub record Left (nodes : List ℕ) (g : Graph) (k b : ℕ) : Type 0 where
  pub place : ℕ
  pub below : place < length g
  pub out : has nodes (k + place) ≡ false
  pub edge : has (row_at g place) b ≡ true

some_here : (t : Bool) (m n : ℕ) → 0 < cond t 0 m + n → ((t ≡ false) × (0 < m)) ⊎ (0 < n)
some_here true m n lt = inr (omega (arith, lt))
some_here false zero n lt = inr (omega (arith, lt))
some_here false (suc m) n lt = inl (refl, omega arith)

true_or : (b : Bool) → (b ≡ true) ⊎ (b ≡ false)
true_or true = inl refl
true_or false = inr refl

stands : (xs : List ℕ) (b : ℕ) → 0 < times xs b → has xs b ≡ true
stands xs b lt = ⊎_elim (λ e. e) (λ e. absurd (omega (arith, none_of xs b e, lt))) (true_or (has xs b))

pub waits_some : (nodes : List ℕ) (b : ℕ) (g : Graph) (k : ℕ) → 0 < waits_from nodes k g b → Left nodes g k b
waits_some nodes b [] k lt = absurd (omega (arith, lt))
waits_some nodes b (row ∷ rows) k lt =
    ⊎_elim
    (λ h. record {
      place = 0;
      below = omega arith;
      out = let at : k + 0 ≡ k = omega arith in ap (has nodes) at ∙ h.0;
      edge = stands row.items b h.1;
    })
    (λ h. let r = waits_some nodes b rows (k + 1) h in record {
      place = suc r.place;
      below = let low = r.below in omega (arith, low);
      out = let at : k + suc r.place ≡ (k + 1) + r.place = omega arith in ap (has nodes) at ∙ r.out;
      edge = r.edge;
    })
    (some_here (has nodes k) (times row.items b) (waits_from nodes (k + 1) rows b) lt)
