-- The graph of calls, call line by call line.
use Rattle.std.proofs.Common.{◌≡◌, ℕ, zero, suc, ◌+◌, ◌<◌, Bool, true, false, ◌||◌, List, [], ◌∷◌, length, get_or, take, refl, sym, ap, ◌∙◌, arith}
use Rattle.g_hier.specs.declared.graph.HeldCall.{HeldCall}
use Rattle.g_hier.specs.CallGraph.{is_edge, edges}

or_assoc : (a b c : Bool) → ((a || b) || c) ≡ (a || (b || c))
or_assoc true b c = refl
or_assoc false b c = refl

or_end : (a : Bool) → (a || false) ≡ a
or_end true = refl
or_end false = refl

-- one more call line
edges_more : (v : ℕ) (hs : List HeldCall) (i : ℕ) (d : HeldCall) (a b : ℕ) → i < length hs → edges v (take (i + 1) hs) a b ≡ (edges v (take i hs) a b || is_edge (v + i) (get_or hs i d) a b)
edges_more v [] i d a b lt = absurd (omega arith)
edges_more v (h ∷ hs) zero d a b lt = let e : v ≡ v + 0 = omega arith in or_end (is_edge v h a b) ∙ ap (λ n. is_edge n h a b) e
edges_more v (h ∷ hs) (suc i) d a b lt =
    let e : suc i + 1 ≡ suc (i + 1) = omega arith in
    let f : suc v + i ≡ v + suc i = omega arith in
    ap (λ n. edges v (take n (h ∷ hs)) a b) e
    ∙ ap (λ x. is_edge v h a b || x) (edges_more (suc v) hs i d a b (omega arith))
    ∙ ap (λ n. is_edge v h a b || (edges (suc v) (take i hs) a b || is_edge n (get_or hs i d) a b)) f
    ∙ sym (or_assoc (is_edge v h a b) (edges (suc v) (take i hs) a b) (is_edge (v + suc i) (get_or hs i d) a b))

-- as at a step of a loop
pub edges_next : (v : ℕ) (hs : List HeldCall) (i : ℕ) (d : HeldCall) (a b : ℕ) (old new : Bool) → i < length hs → new ≡ (old || is_edge (v + i) (get_or hs i d) a b)
    → old ≡ edges v (take i hs) a b → new ≡ edges v (take (i + 1) hs) a b
edges_next v hs i d a b old new lt e h = e ∙ ap (λ x. x || is_edge (v + i) (get_or hs i d) a b) h ∙ sym (edges_more v hs i d a b lt)
