-- The order, as far as it has come.
use Rattle.std.proofs.Common.{◌≡◌, ◌⊎◌, inl, inr, ⊎_elim, ℕ, zero, suc, ◌+◌, ◌<◌, ◌≤◌, Bool, true, false, cond, not, ◌&&◌, ◌||◌, ◌==◌, List, [], ◌∷◌, ◌++◌, length, take, get_or, refl, sym, ap, subst, ◌∙◌, arith, Some, length-append}
use Rattle.std.proofs.lemmas.Grind.{common_steps}
use Rattle.std.proofs.lemmas.List.{get_or_append_left, take-append-le}
use Rattle.std.proofs.lemmas.Option.{slice_get-get_or, slice_get_within, get_or_from_slice_get}
use Rattle.std.proofs.lemmas.List.Sums.{sum_by_more_le}
use Rattle.std.proofs.Math.Seq.{get_or-append_seam, take-append_seam}
use Rattle.std.specs.Prelude.{slice_get}
use Rattle.std.specs.List.{list_all}
use Rattle.g_diagram.specs.Leads.{Leads}
use Rattle.g_graph.specs.Graph.{Graph, RowInRange, has, has_edge}
use Rattle.g_graph.proofs.Search.{has_push, one_step}
use Rattle.g_graph.proofs.Shows.{leads_join}
use Rattle.g_graph_order.specs.Order.{times, at, free, waits, row_at, IsOrder, HasCycle}
use Rattle.g_graph_order.proofs.Waiting.{times_push, absent, none_of, waits_at, waits_none, waits_some, Left}
use Rattle.g_graph_order.proofs.Turning.{turns, Before}

-- whatever has an edge to a node of the list stands before it
abbrev pub Forward : Graph → List ℕ → Type 0
Forward g nodes = (i a b : ℕ) → slice_get nodes i ≡ Some b → has_edge g a b ≡ true → has (take i nodes) a ≡ true

pub record Removed (g : Graph) (counts stack nodes : List ℕ) : Type 0 where
  pub len : length counts ≡ length g
  -- what is counted are the edges from nodes that aren't in the order yet
  pub counts_are : (b : ℕ) → b < length g → at counts b ≡ waits nodes g b
  -- a node without such edges stands once, on the stack or in the order
  pub once : (b : ℕ) → times stack b + times nodes b ≡ free counts b
  pub forward : Forward g nodes

zero_is : (n : ℕ) → (n == 0) ≡ true → n ≡ 0
zero_is n e = grind (arith, e)

some_isnt : (n : ℕ) → 0 < n → (n == 0) ≡ false
some_isnt n lt = grind (arith, lt)

isnt_zero : (n : ℕ) → (n == 0) ≡ false → 0 < n
isnt_zero n e = grind (arith, e)

free_zero : (counts : List ℕ) (b : ℕ) → ◌≡◌ {A = ℕ} (free counts b) 1 → at counts b ≡ 0
free_zero counts b e = by (at counts b == 0) refl e
  where
    by : (t : Bool) → (at counts b == 0) ≡ t → ◌≡◌ {A = ℕ} (cond t 1 0) 1 → at counts b ≡ 0
    by true e h = zero_is (at counts b) e
    by false e h = let k : ◌≡◌ {A = ℕ} 0 1 = h in absurd (omega (arith, k))

free_below : (counts : List ℕ) (b : ℕ) → free counts b ≤ 1
free_below counts b = by (at counts b == 0)
  where
    by : (t : Bool) → cond t 1 0 ≤ 1
    by true = omega arith
    by false = omega arith

at_past : (counts : List ℕ) (b : ℕ) → length counts ≤ b → at counts b ≡ 1
at_past counts b le = grind (arith, common_steps)

in_range : (counts : List ℕ) (b : ℕ) → at counts b ≡ 0 → b < length counts
in_range counts b e = ⊎_elim (λ lt. lt) (λ le. absurd (omega (arith, e, at_past counts b le))) (split b (length counts))
  where
    split : (a n : ℕ) → (a < n) ⊎ (n ≤ a)
    split a n = grind arith

same_one : (v : ℕ) → ◌≡◌ {A = ℕ} (cond (v == v) 1 0) 1
same_one v = grind arith

-- what is known of a node at the top of the stack
pub record Top (g : Graph) (counts nodes : List ℕ) (v : ℕ) : Type 0 where
  pub below : v < length g
  pub waits_none : waits nodes g v ≡ 0
  pub absent : times nodes v ≡ 0

old_get : (xs : List ℕ) (y i : ℕ) → i < length xs → slice_get (xs ++ y ∷ []) i ≡ slice_get xs i
old_get xs y i lt =
    slice_get-get_or (xs ++ y ∷ []) i y (omega (arith, length-append xs (y ∷ []), lt))
    ∙ ap Some (get_or_append_left xs (y ∷ []) y i lt) ∙ sym (slice_get-get_or xs i y lt)

old_take : (xs : List ℕ) (y i : ℕ) → i < length xs → take i (xs ++ y ∷ []) ≡ take i xs
old_take xs y i lt = take-append-le i xs (y ∷ []) (omega (arith, lt))

last_place : (xs : List ℕ) (y i b : ℕ) → length xs ≤ i → slice_get (xs ++ y ∷ []) i ≡ Some b → i ≡ length xs
last_place xs y i b le e = let within = slice_get_within (xs ++ y ∷ []) i b e in omega (arith, length-append xs (y ∷ []), within, le)

last_get : (xs : List ℕ) (y i b : ℕ) → i ≡ length xs → slice_get (xs ++ y ∷ []) i ≡ Some b → b ≡ y
last_get xs y i b same e =
    sym (get_or_from_slice_get (xs ++ y ∷ []) i b y e) ∙ ap (λ k. get_or (xs ++ y ∷ []) k y) same ∙ get_or-append_seam xs y [] y

last_take : (xs : List ℕ) (y i : ℕ) → i ≡ length xs → take i (xs ++ y ∷ []) ≡ xs
last_take xs y i same = ap (λ k. take k (xs ++ y ∷ [])) same ∙ take-append_seam xs (y ∷ [])

module _ (g : Graph) (counts stack nodes : List ℕ) (r : Removed g counts stack nodes) (rest : List ℕ) (v : ℕ) (popped : stack ≡ rest ++ v ∷ []) where
  stacked : (b : ℕ) → times stack b ≡ times rest b + cond (v == b) 1 0
  stacked b = ap (λ xs. times xs b) popped ∙ times_push rest v b

  pub top : Top g counts nodes v
  top =
      let one = r.once v in
      let most = free_below counts v in
      let s : times stack v ≡ times rest v + 1 = stacked v ∙ ap (λ n. times rest v + n) (same_one v) in
      let zero : at counts v ≡ 0 = free_zero counts v (omega (arith, one, most, s)) in
      let low : v < length g = omega (arith, in_range counts v zero, r.len) in
      record { below = low; waits_none = sym (r.counts_are v low) ∙ zero; absent = omega (arith, one, most, s) }

  new_has : (new : List ℕ) → new ≡ nodes ++ v ∷ [] → (x : ℕ) → has new x ≡ (has nodes x || (v == x))
  new_has new e x = has_push new nodes v x e

  pub left_at : (new : List ℕ) → new ≡ nodes ++ v ∷ [] → (b : ℕ) → waits nodes g b ≡ waits new g b + times (row_at g v) b
  left_at new e b = waits_at nodes new b v (new_has new e) (absent nodes v top.absent) g 0 v (omega arith)

  -- the row may be taken away
  pub row_waits : (new : List ℕ) → new ≡ nodes ++ v ∷ [] → (b : ℕ) → b < length counts → times (row_at g v) b ≤ at counts b
  row_waits new e b lt =
      let low : b < length g = omega (arith, lt, r.len) in
      let c = r.counts_are b low in
      let l = left_at new e b in
      omega (arith, c, l)

  split : (a n : ℕ) → (a < n) ⊎ (n ≤ a)
  split a n = grind arith

  true_or : (b : Bool) → (b ≡ true) ⊎ (b ≡ false)
  true_or true = inl refl
  true_or false = inr refl

  clash : {T : Type 0} (b : Bool) → b ≡ true → b ≡ false → T
  clash b e f = absurd cc

  led : (a : ℕ) → has_edge g a v ≡ true → has nodes a ≡ true
  led a e = ⊎_elim (λ h. h) (λ h. clash (has_edge g a v) e (waits_none nodes v g 0 a top.waits_none (let z : 0 + a ≡ a = omega arith in ap (has nodes) z ∙ h))) (true_or (has nodes a))

  forward_next : Forward g (nodes ++ v ∷ [])
  forward_next i a b at e = ⊎_elim
      (λ lt. ap (λ xs. has xs a) (old_take nodes v i lt) ∙ r.forward i a b (sym (old_get nodes v i lt) ∙ at) e)
      (λ le. let same = last_place nodes v i b le at in
      ap (λ xs. has xs a) (last_take nodes v i same) ∙ led a (ap (λ x. has_edge g a x) (sym (last_get nodes v i b same at)) ∙ e))
      (split i (length nodes))

  pub removed_next : (new after left : List ℕ) → new ≡ nodes ++ v ∷ [] → length after ≡ length counts
      → ((b : ℕ) → at after b + times (row_at g v) b ≡ at counts b) → ((b : ℕ) → times left b + free counts b ≡ times rest b + free after b)
      → Removed g after left new
  removed_next new after left e len counted moved = record {
    len = omega (arith, len, r.len);
    counts_are = λ b lt. let c = r.counts_are b lt in let l = left_at new e b in let d = counted b in omega (arith, c, l, d);
    once = λ b. let o = r.once b in let m = moved b in let s = stacked b in let n : times new b ≡ times nodes b + cond (v == b) 1 0 = ap (λ xs. times xs b) e ∙ times_push nodes v b in omega (arith, o, m, s, n);
    forward = let P : List ℕ → Type 0 = Forward g in subst P (sym e) forward_next;
  }

-- ---- the end

all_zero : (counts : List ℕ) (v : ℕ) → list_all (λ c. c == 0) counts ≡ true → v < length counts → at counts v ≡ 0
all_zero [] v e lt = absurd (omega (arith, lt))
all_zero (c ∷ counts) zero e lt = first c (list_all (λ c. c == 0) counts) e
  where
    left : (s t : Bool) → (s && t) ≡ true → s ≡ true
    left true t e = refl
    left false t e = e

    first : (c : ℕ) (t : Bool) → ((c == 0) && t) ≡ true → c ≡ 0
    first c t e = zero_is c (left (c == 0) t e)
all_zero (c ∷ counts) (suc v) e lt = all_zero counts v (second (c == 0) (list_all (λ c. c == 0) counts) e) (omega (arith, lt))
  where
    second : (s t : Bool) → (s && t) ≡ true → t ≡ true
    second true t e = e
    second false t e = absurd cc

-- a node to which an edge is left
record Waits (counts : List ℕ) : Type 0 where
  pub place : ℕ
  pub below : place < length counts
  pub some : 0 < at counts place

not_zero : (counts : List ℕ) → list_all (λ c. c == 0) counts ≡ false → Waits counts
not_zero [] e = absurd cc
not_zero (c ∷ counts) e = by (c == 0) refl e (not_zero counts)
  where
    by : (t : Bool) → (c == 0) ≡ t → (t && list_all (λ c. c == 0) counts) ≡ false → (list_all (λ c. c == 0) counts ≡ false → Waits counts) → Waits (c ∷ counts)
    by true is h rest = let r = rest h in let low = r.below in record { place = suc r.place; below = omega (arith, low); some = r.some }
    by false is h rest = record { place = 0; below = omega arith; some = isnt_zero c is }

not_free : (counts : List ℕ) (b : ℕ) → 0 < at counts b → ◌≡◌ {A = ℕ} (free counts b) 0
not_free counts b lt = ap (λ t. cond t 1 0) (some_isnt (at counts b) lt)

is_free : (counts : List ℕ) (b : ℕ) → at counts b ≡ 0 → ◌≡◌ {A = ℕ} (free counts b) 1
is_free counts b e = ap (λ n. cond (n == 0) 1 0) e

not_free_waits : (counts : List ℕ) (b : ℕ) → ◌≡◌ {A = ℕ} (free counts b) 0 → 0 < at counts b
not_free_waits counts b e = by (at counts b == 0) refl e
  where
    by : (t : Bool) → (at counts b == 0) ≡ t → ◌≡◌ {A = ℕ} (cond t 1 0) 0 → 0 < at counts b
    by true e h = let k : ◌≡◌ {A = ℕ} 1 0 = h in absurd (omega (arith, k))
    by false e h = isnt_zero (at counts b) e

past_free : (counts : List ℕ) (b : ℕ) → length counts ≤ b → ◌≡◌ {A = ℕ} (free counts b) 0
past_free counts b le = not_free counts b (omega (arith, at_past counts b le))

none_stacked : (stack : List ℕ) (b : ℕ) → length stack ≡ 0 → times stack b ≡ 0
none_stacked [] b e = refl
none_stacked (x ∷ xs) b e = absurd (omega (arith, e))

module _ (g : Graph) (counts stack nodes : List ℕ) (r : Removed g counts stack nodes) (empty : length stack ≡ 0) where
  pub is_order : list_all (λ c. c == 0) counts ≡ true → IsOrder g nodes
  is_order zeros = record {
    each = λ v lt. let o = r.once v in let n = none_stacked stack v empty in let f = is_free counts v (all_zero counts v zeros (omega (arith, lt, r.len))) in omega (arith, o, n, f);
    only = λ v le. let o = r.once v in let n = none_stacked stack v empty in let f = past_free counts v (omega (arith, le, r.len)) in omega (arith, o, n, f);
    forward = r.forward;
  }

  not_out : (b : Bool) → not b ≡ true → b ≡ false
  not_out true e = absurd cc
  not_out false e = refl

  before : (a : ℕ) → a < length g → not (has nodes a) ≡ true → Before (λ v. not (has nodes v)) (Leads (has_edge g)) (length g) a
  before a lt e =
      let o = r.once a in
      let n = none_stacked stack a empty in
      let t = none_of nodes a (not_out (has nodes a) e) in
      let some : 0 < at counts a = not_free_waits counts a (omega (arith, o, n, t)) in
      let c = r.counts_are a lt in
      let l : Left nodes g 0 a = waits_some nodes a g 0 (omega (arith, some, c)) in
      record {
        it = l.place;
        below = l.below;
        passes = ap not (let z : l.place ≡ 0 + l.place = omega arith in ap (has nodes) z ∙ l.out);
        leads = one_step (has_edge g) l.place a l.edge;
      }

  pub has_cycle : list_all (λ c. c == 0) counts ≡ false → HasCycle g
  has_cycle left =
      let w = not_zero counts left in
      let o = r.once w.place in
      let f = not_free counts w.place w.some in
      let low = w.below in
      turns (λ v. not (has nodes v)) (Leads (has_edge g)) (leads_join (has_edge g)) (length g) before w.place (omega (arith, low, r.len))
      (ap not (absent nodes w.place (omega (arith, o, f))))

-- the nodes without edges, as they are gathered
pub gathered : (old new counts : List ℕ) (i : ℕ) → ((b : ℕ) → times new b ≡ times old b + cond (i == b) (free counts i) 0) → ((b : ℕ) → b < i → times old b ≡ free counts b) → ((b : ℕ) → i ≤ b → times old b ≡ 0)
    → (b : ℕ) → b < i + 1 → times new b ≡ free counts b
gathered old new counts i step seen later b lt = ⊎_elim
    (λ low. step b ∙ omega (arith, seen b low, other b low))
    (λ same. step b ∙ omega (arith, later b (omega (arith, same)), this b same))
    (split b lt)
  where
    split : (b : ℕ) → b < i + 1 → (b < i) ⊎ (i ≡ b)
    split b lt = grind (arith, lt)

    other : (b : ℕ) → b < i → cond (i == b) (free counts i) 0 ≡ 0
    other b low = grind (arith, low)

    this : (b : ℕ) → i ≡ b → cond (i == b) (free counts i) 0 ≡ free counts b
    this b same = let P : ℕ → Type 0 = λ x. cond (i == x) (free counts i) 0 ≡ free counts x in subst P same (one (i == i) (grind arith))
      where
        one : (t : Bool) → t ≡ true → cond t (free counts i) 0 ≡ free counts i
        one t e = ap (λ t. cond t (free counts i) 0) e

pub none_gathered : (old new counts : List ℕ) (i : ℕ) → ((b : ℕ) → times new b ≡ times old b + cond (i == b) (free counts i) 0) → ((b : ℕ) → i ≤ b → times old b ≡ 0) → (b : ℕ) → i + 1 ≤ b → times new b ≡ 0
none_gathered old new counts i step later b le = step b ∙ omega (arith, later b (omega (arith, le)), other)
  where
    other : cond (i == b) (free counts i) 0 ≡ 0
    other = grind (arith, le)

pub all_gathered : (nodes counts : List ℕ) (i : ℕ) → length counts ≤ i → ((b : ℕ) → b < i → times nodes b ≡ free counts b) → ((b : ℕ) → i ≤ b → times nodes b ≡ 0) → (b : ℕ) → times nodes b ≡ free counts b
all_gathered nodes counts i le seen later b = ⊎_elim (seen b) (λ past. omega (arith, later b past, past_free counts b (omega (arith, le, past)))) (split b)
  where
    split : (b : ℕ) → (b < i) ⊎ (i ≤ b)
    split b = grind arith

-- the edge at a place of a row is left
pub some_left : (row counts first : List ℕ) (i : ℕ) → i < length row → RowInRange (length first) row → ((b : ℕ) → b < length first → times row b ≤ at first b)
    → ((b : ℕ) → at counts b + times (take i row) b ≡ at first b) → 0 < at counts (get_or row i 0)
some_left row counts first i lt range waits counted =
    let v = get_or row i 0 in
    let low : v < length first = grind (arith, common_steps, range) in
    let most = waits v low in
    let now = counted v in
    let part = sum_by_more_le (λ c. cond (c == v) 1 0) row i 0 lt in
    let one = same_one v in
    omega (arith, most, now, part, one)
