-- Edges added to a graph.
use Rattle.std.proofs.Common.{◌≡◌, ◌⊎◌, inl, inr, ⊎_elim, ℕ, zero, suc, ◌+◌, ◌<◌, ◌≤◌, ◌==◌, Bool, true, false, ◌&&◌, ◌||◌, [], ◌∷◌, ◌++◌, length, get_or, length-append, refl, sym, ap, ◌∙◌, subst, arith}
use Rattle.std.specs.Prelude.{All, Vec}
use Rattle.std.specs.declared.alloc.Global.{Global}
use Rattle.std.proofs.Math.ListN.{set, length-set}
use Rattle.std.proofs.lemmas.List.{get_or-set_other}
use Rattle.std.proofs.lemmas.Grind.{get_or-set_at}
use Rattle.std.proofs.lemmas.Option.{slice_get-get_or, slice_get_past}
use Rattle.std.proofs.lemmas.List.Elements.{All-push}
use Rattle.g_graph.specs.Graph.{Graph, RowInRange, has, has_edge, row_of}
use Rattle.g_graph.proofs.Search.{has_push, same_number}

eq_or : (x y : ℕ) → (x ≡ y) ⊎ ((x == y) ≡ false)
eq_or x y = at (x == y) refl
  where
    at : (b : Bool) → (x == y) ≡ b → (x ≡ y) ⊎ ((x == y) ≡ false)
    at true e = inl (same_number x y e)
    at false e = inr e

edge_at : (g : Graph) (a b : ℕ) (d : Vec ℕ Global) → a < length g → has_edge g a b ≡ has (get_or g a d).items b
edge_at g a b d lt = ap (λ o. has (row_of o) b) (slice_get-get_or g a d lt)

below_or : (a n : ℕ) → (a < n) ⊎ (n ≤ a)
below_or a n = grind arith

or_off : (x y : Bool) → (x || (false && y)) ≡ x
or_off true y = refl
or_off false y = refl

pub edge_added : (g : Graph) (from to : ℕ) (r s : Vec ℕ Global) → from < length g → r ≡ get_or g from r → s.items ≡ r.items ++ to ∷ []
    → (a b : ℕ) → has_edge (set g from s) a b ≡ (has_edge g a b || ((from == a) && (to == b)))
edge_added g from to r s lt is items a b = ⊎_elim same apart (eq_or from a)
  where
    long : length (set g from s) ≡ length g
    long = length-set g from s

    same : from ≡ a → has_edge (set g from s) a b ≡ (has_edge g a b || ((from == a) && (to == b)))
    same e =
        let below : a < length g = omega (arith, e) in
        let old : has_edge g a b ≡ has r.items b = edge_at g a b r below ∙ ap (λ row. has row.items b) (ap (λ i. get_or g i r) (sym e) ∙ sym is) in
        let new : has_edge (set g from s) a b ≡ (has r.items b || (to == b)) = edge_at (set g from s) a b s (omega (arith, long)) ∙ ap (λ row. has row.items b) (get_or-set_at g from a s s (sym e) lt) ∙ has_push s.items r.items to b items in
        let here : (from == a) ≡ true = grind (arith, e) in
        new ∙ ap (λ x. x || (to == b)) (sym old) ∙ ap (λ x. has_edge g a b || (x && (to == b))) (sym here)

    other : (from == a) ≡ false → has_edge (set g from s) a b ≡ has_edge g a b
    other e = ⊎_elim
        (λ below. edge_at (set g from s) a b s (omega (arith, long, below)) ∙ ap (λ row. has row.items b) (get_or-set_other g from a s s (λ f. let here : (from == a) ≡ true = grind (arith, f) in cc)) ∙ sym (edge_at g a b s below))
        (λ past. ap (λ o. has (row_of o) b) (slice_get_past (set g from s) a (omega (arith, long, past)) ∙ sym (slice_get_past g a past)))
        (below_or a (length g))

    apart : (from == a) ≡ false → has_edge (set g from s) a b ≡ (has_edge g a b || ((from == a) && (to == b)))
    apart e = other e ∙ sym (or_off (has_edge g a b) (to == b)) ∙ ap (λ x. has_edge g a b || (x && (to == b))) (sym e)

bare_more : (g : Graph) (r : Vec ℕ Global) → r.items ≡ [] → ((a b : ℕ) → has_edge g a b ≡ false) → (a b : ℕ) → has_edge (g ++ r ∷ []) a b ≡ false
bare_more [] r e h zero b = ap (λ xs. has xs b) e
bare_more [] r e h (suc a) b = refl
bare_more (x ∷ g) r e h zero b = h zero b
bare_more (x ∷ g) r e h (suc a) b = bare_more g r e (λ a b. h (suc a) b) a b

-- one more node without an edge
pub rows_more : (count : ℕ) (g new : Graph) (r : Vec ℕ Global) → r.items ≡ [] → new ≡ g ++ r ∷ [] → All (λ row. RowInRange count row.items) g → All (λ row. RowInRange count row.items) new
rows_more count g new r empty e all =
    let P : Graph → Type 0 = All (λ row. RowInRange count row.items) in
    let none : RowInRange count r.items = λ k d lt. absurd (let same : length r.items ≡ 0 = ap length empty in omega (arith, same, lt)) in
    subst P (sym e) (All-push (λ row. RowInRange count row.items) g r all none)

pub length_more : (g new : Graph) (r : Vec ℕ Global) (i : ℕ) → new ≡ g ++ r ∷ [] → length g ≡ i → length new ≡ i + 1
length_more g new r i e h = ap length e ∙ length-append g (r ∷ []) ∙ ap (λ n. n + 1) h

pub bare_next : (g new : Graph) (r : Vec ℕ Global) → r.items ≡ [] → new ≡ g ++ r ∷ [] → ((a b : ℕ) → has_edge g a b ≡ false) → (a b : ℕ) → has_edge new a b ≡ false
bare_next g new r empty e h a b = ap (λ xs. has_edge xs a b) e ∙ bare_more g r empty h a b
