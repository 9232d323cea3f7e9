-- A call line leads to itself in the graph of calls exactly where the VI that it calls reaches the VI that holds it.
use Rattle.std.proofs.Common.{◌≡◌, ◌⊎◌, inl, inr, ⊎_elim, ℕ, zero, suc, ◌+◌, ◌<◌, ◌≤◌, ◌==◌, Bool, true, false, ◌&&◌, ◌||◌, List, [], ◌∷◌, length, get_or, All, refl, sym, ap, ◌∙◌, subst, arith}
use Rattle.std.proofs.lemmas.Bool.{cases_lt}
use Rattle.g_diagram.specs.Leads.{Walk, Leads}
use Rattle.g_graph.proofs.Search.{one_step, one_more, or_cases, same_number}
use Rattle.g_graph.proofs.Shows.{leads_join}
use Rattle.g_hier.specs.declared.graph.HeldCall.{HeldCall}
use Rattle.g_hier.specs.CallGraph.{EndsBelow, is_edge, edges}

abbrev pub nothing : HeldCall
nothing = record { holder = 0; line = 0; called = 0 }

-- a call line by its number
abbrev pub call_at : List HeldCall → ℕ → HeldCall
call_at hs k = get_or hs k nothing

and_left : (a b : Bool) → (a && b) ≡ true → a ≡ true
and_left true b h = refl
and_left false b h = absurd cc

and_right : (a b : Bool) → (a && b) ≡ true → b ≡ true
and_right true b h = h
and_right false b h = absurd cc

or_left : (a b : Bool) → a ≡ true → (a || b) ≡ true
or_left a b h = ap (λ x. x || b) h

or_right : (a b : Bool) → b ≡ true → (a || b) ≡ true
or_right true b h = refl
or_right false b h = h

equal : (x y : ℕ) → x ≡ y → (x == y) ≡ true
equal x y e = grind (arith, e)

both : (a b : Bool) → a ≡ true → b ≡ true → (a && b) ≡ true
both true b h k = k
both false b h k = absurd cc

out_of_vi : (v : ℕ) (h : HeldCall) (a b : ℕ) → h.holder ≡ a → v ≡ b → is_edge v h a b ≡ true
out_of_vi v h a b e f = or_left ((h.holder == a) && (v == b)) ((v == a) && (h.called == b)) (both (h.holder == a) (v == b) (equal h.holder a e) (equal v b f))

into_vi : (v : ℕ) (h : HeldCall) (a b : ℕ) → v ≡ a → h.called ≡ b → is_edge v h a b ≡ true
into_vi v h a b e f = or_right ((h.holder == a) && (v == b)) ((v == a) && (h.called == b)) (both (v == a) (h.called == b) (equal v a e) (equal h.called b f))

ends_of : (v : ℕ) (h : HeldCall) (a b : ℕ) → is_edge v h a b ≡ true → ((h.holder ≡ a) × (v ≡ b)) ⊎ ((v ≡ a) × (h.called ≡ b))
ends_of v h a b e = ⊎_elim
    (λ x. inl (same_number h.holder a (and_left (h.holder == a) (v == b) x), same_number v b (and_right (h.holder == a) (v == b) x)))
    (λ x. inr (same_number v a (and_left (v == a) (h.called == b) x), same_number h.called b (and_right (v == a) (h.called == b) x)))
    (or_cases ((h.holder == a) && (v == b)) ((v == a) && (h.called == b)) e)

-- the call line of an edge
record EdgeOf (v : ℕ) (hs : List HeldCall) (a b : ℕ) : Type 0 where
  at : ℕ
  below : at < length hs
  is : is_edge (v + at) (call_at hs at) a b ≡ true

edge_found : (v : ℕ) (hs : List HeldCall) (a b : ℕ) → edges v hs a b ≡ true → EdgeOf v hs a b
edge_found v [] a b e = absurd cc
edge_found v (h ∷ hs) a b e = ⊎_elim
    (λ x. let f : v ≡ v + 0 = omega arith in record { at = 0; below = omega arith; is = ap (λ n. is_edge n h a b) (sym f) ∙ x })
    (λ x. let m : EdgeOf (suc v) hs a b = edge_found (suc v) hs a b x in
    let f : v + suc m.at ≡ suc v + m.at = omega arith in
    record { at = suc m.at; below = let lt = m.below in omega (arith, lt); is = ap (λ n. is_edge n (call_at hs m.at) a b) f ∙ m.is })
    (or_cases (is_edge v h a b) (edges (suc v) hs a b) e)

edge_here : (v : ℕ) (hs : List HeldCall) (a b k : ℕ) → k < length hs → is_edge (v + k) (call_at hs k) a b ≡ true → edges v hs a b ≡ true
edge_here v [] a b k lt e = absurd (omega arith)
edge_here v (h ∷ hs) a b zero lt e = let f : v ≡ v + 0 = omega arith in or_left (is_edge v h a b) (edges (suc v) hs a b) (ap (λ n. is_edge n h a b) f ∙ e)
edge_here v (h ∷ hs) a b (suc k) lt e =
    let f : suc v + k ≡ v + suc k = omega arith in
    or_right (is_edge v h a b) (edges (suc v) hs a b) (edge_here (suc v) hs a b k (omega arith) (ap (λ n. is_edge n (call_at hs k) a b) f ∙ e))

-- a call line from VI u to VI v
pub record Calls (hs : List HeldCall) (u v : ℕ) : Type 0 where
  pub at : ℕ
  pub below : at < length hs
  pub from : (call_at hs at).holder ≡ u
  pub to : (call_at hs at).called ≡ v

module _ (n : ℕ) (hs : List HeldCall) (ends : All (EndsBelow n) hs) (calls : ℕ → ℕ → Bool)
    (each : (k : ℕ) → k < length hs → calls (call_at hs k).holder (call_at hs k).called ≡ true)
    (found : (u v : ℕ) → calls u v ≡ true → Calls hs u v) where
  abbrev reaches : (a b : ℕ) → Type 0
  reaches a b = (a ≡ b) ⊎ Leads calls a b

  -- where a walk from call line j has come
  record At (j x : ℕ) : Type 0 where
    at_vi : x < n → reaches (call_at hs j).called x
    at_call : (k : ℕ) → k < length hs → n + k ≡ x → reaches (call_at hs j).called (call_at hs k).holder

  first : (j x : ℕ) → edges n hs (n + j) x ≡ true → At j x
  first j x w =
      let e : EdgeOf n hs (n + j) x = edge_found n hs (n + j) x w in
      let holder_below : (call_at hs e.at).holder < n = (ends e.at nothing e.below).0 in
      let called_below : (call_at hs e.at).called < n = (ends e.at nothing e.below).1 in
      ⊎_elim
      (λ h. let f = h.0 in absurd (omega (arith, f, holder_below)))
      (λ h.
      let f = h.0 in
      let g = h.1 in
      let same : e.at ≡ j = omega (arith, f) in
      record {
        at_vi = λ lt. inl (ap (λ k. (call_at hs k).called) (sym same) ∙ g);
        at_call = λ k lt q. absurd (omega (arith, q, g, called_below));
      })
      (ends_of (n + e.at) (call_at hs e.at) (n + j) x e.is)

  from_vi : (j c x : ℕ) → c < n → reaches (call_at hs j).called c → edges n hs c x ≡ true → At j x
  from_vi j c x lt r w =
      let e : EdgeOf n hs c x = edge_found n hs c x w in
      ⊎_elim
      (λ h.
      let f = h.0 in
      let g = h.1 in
      record {
        at_vi = λ below. absurd (omega (arith, g, below));
        at_call = λ k below q.
            let same : e.at ≡ k = omega (arith, q, g) in
            let holds : c ≡ (call_at hs k).holder = sym f ∙ ap (λ i. (call_at hs i).holder) same in
            let P : ℕ → Type 0 = λ y. reaches (call_at hs j).called y in
            subst P holds r;
      })
      (λ h. let f = h.0 in absurd (omega (arith, f, lt)))
      (ends_of (n + e.at) (call_at hs e.at) c x e.is)

  from_call : (j c x : ℕ) → n ≤ c → ((k : ℕ) → k < length hs → n + k ≡ c → reaches (call_at hs j).called (call_at hs k).holder) → edges n hs c x ≡ true → At j x
  from_call j c x le r w =
      let e : EdgeOf n hs c x = edge_found n hs c x w in
      let holder_below : (call_at hs e.at).holder < n = (ends e.at nothing e.below).0 in
      let called_below : (call_at hs e.at).called < n = (ends e.at nothing e.below).1 in
      ⊎_elim
      (λ h. let f = h.0 in absurd (omega (arith, f, holder_below, le)))
      (λ h.
      let f = h.0 in
      let g = h.1 in
      let P : ℕ → Type 0 = λ y. reaches (call_at hs j).called y in
      record {
        at_vi = λ below. subst P g (one_more_call (call_at hs j).called e.at e.below (r e.at e.below f));
        at_call = λ k below q. absurd (omega (arith, q, g, called_below));
      })
      (ends_of (n + e.at) (call_at hs e.at) c x e.is)
    where
      one_more_call : (a k : ℕ) → k < length hs → reaches a (call_at hs k).holder → reaches a (call_at hs k).called
      one_more_call a k lt s = ⊎_elim
          (λ same. let Q : ℕ → Type 0 = λ y. Leads calls y (call_at hs k).called in
          inr (subst Q (sym same) (one_step calls (call_at hs k).holder (call_at hs k).called (each k lt))))
          (λ l. inr (one_more calls a (call_at hs k).holder (call_at hs k).called l (each k lt)))
          s

  walked : (m j x : ℕ) → Walk (edges n hs) m (n + j) x → At j x
  walked zero j x w = first j x w
  walked (suc m) j x w =
      let a : At j w.0 = walked m j w.0 w.1 in
      ⊎_elim (λ lt. from_vi j w.0 x lt (a.at_vi lt) w.2) (λ le. from_call j w.0 x le a.at_call w.2) (cases_lt w.0 n)

  -- a call line that leads to itself leads back
  pub leads_back : (j : ℕ) → j < length hs → Leads (edges n hs) (n + j) (n + j) → reaches (call_at hs j).called (call_at hs j).holder
  leads_back j lt l = let a : At j (n + j) = walked l.0 j (n + j) l.1 in a.at_call j lt refl

  into_call : (k : ℕ) → k < length hs → edges n hs (call_at hs k).holder (n + k) ≡ true
  into_call k lt = edge_here n hs (call_at hs k).holder (n + k) k lt (out_of_vi (n + k) (call_at hs k) (call_at hs k).holder (n + k) refl refl)

  out_of_call : (k : ℕ) → k < length hs → edges n hs (n + k) (call_at hs k).called ≡ true
  out_of_call k lt = edge_here n hs (n + k) (call_at hs k).called k lt (into_vi (n + k) (call_at hs k) (n + k) (call_at hs k).called refl refl)

  two_steps : (u v : ℕ) → calls u v ≡ true → Leads (edges n hs) u v
  two_steps u v e =
      let c : Calls hs u v = found u v e in
      let P : ℕ → Type 0 = λ y. edges n hs y (n + c.at) ≡ true in
      let Q : ℕ → Type 0 = λ y. edges n hs (n + c.at) y ≡ true in
      one_more (edges n hs) u (n + c.at) v
      (one_step (edges n hs) u (n + c.at) (subst P c.from (into_call c.at c.below)))
      (subst Q c.to (out_of_call c.at c.below))

  calls_lead : (m u v : ℕ) → Walk calls m u v → Leads (edges n hs) u v
  calls_lead zero u v w = two_steps u v w
  calls_lead (suc m) u v w = leads_join (edges n hs) u w.0 v (calls_lead m u w.0 w.1) (two_steps w.0 v w.2)

  -- a call line that leads back leads to itself
  pub leads_around : (j : ℕ) → j < length hs → reaches (call_at hs j).called (call_at hs j).holder → Leads (edges n hs) (n + j) (n + j)
  leads_around j lt r =
      let P : ℕ → Type 0 = λ y. Leads (edges n hs) (n + j) y in
      let out : Leads (edges n hs) (n + j) (call_at hs j).called = one_step (edges n hs) (n + j) (call_at hs j).called (out_of_call j lt) in
      one_more (edges n hs) (n + j) (call_at hs j).holder (n + j)
      (⊎_elim
      (λ same. subst P same out)
      (λ l. leads_join (edges n hs) (n + j) (call_at hs j).called (call_at hs j).holder out (calls_lead l.0 (call_at hs j).called (call_at hs j).holder l.1))
      r)
      (into_call j lt)
