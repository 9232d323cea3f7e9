-- What shows which nodes lead to themselves.
use Rattle.std.proofs.Common.{◌≡◌, ◌⊎◌, inl, inr, ⊎_elim, ℕ, zero, suc, ◌<◌, ◌≤◌, Bool, true, false, sym, ◌∙◌, subst, arith}
use Rattle.g_diagram.specs.Leads.{Walk, Leads}
use Rattle.g_graph.specs.Graph.{Shown, Enters, Leaves, Turns}
use Rattle.g_graph.proofs.Search.{one_step, one_more}

-- walks join
join : (step : ℕ → ℕ → Bool) (a b : ℕ) → Leads step a b → (n c : ℕ) → Walk step n b c → Leads step a c
join step a b l zero c w = one_more step a b c l w
join step a b l (suc n) c w = one_more step a w.0 c (join step a b l n w.0 w.1) w.2

pub leads_join : (step : ℕ → ℕ → Bool) (a b c : ℕ) → Leads step a b → Leads step b c → Leads step a c
leads_join step a b c l m = join step a b l m.0 c m.1

module _ (step : ℕ → ℕ → Bool) (on : ℕ → Bool) (rank root near far : ℕ → ℕ) (s : Shown step on rank root near far) where
  -- no step raises the rank
  walk_falls : (n a b : ℕ) → Walk step n a b → rank b ≤ rank a
  walk_falls zero a b w = s.falls a b w
  walk_falls (suc n) a b w = let h = walk_falls n a w.0 w.1 in let k = s.falls w.0 b w.2 in omega (arith, h, k)

  -- from a node that isn't on a cycle the first step lowers it
  walk_drops : (n a b : ℕ) → on a ≡ false → Walk step n a b → rank b < rank a
  walk_drops zero a b off w = s.drops a b off w
  walk_drops (suc n) a b off w = let h = walk_drops n a w.0 off w.1 in let k = s.falls w.0 b w.2 in omega (arith, h, k)

  off_never : (a : ℕ) → on a ≡ false → Leads step a a → ⊥
  off_never a off l = let h = walk_drops l.0 a a off l.1 in omega (arith, h)

  from_root : (k v : ℕ) → near v ≤ k → on v ≡ true → (root v ≡ v) ⊎ Leads step (root v) v
  from_root zero v h up = ⊎_elim inl (λ (e : Enters step on root near v). absurd (omega (arith, e.nearer, h))) (s.enters v up)
  from_root (suc k) v h up = ⊎_elim inl (λ (e : Enters step on root near v). inr (
      ⊎_elim
      (λ same. let P : ℕ → Type 0 = λ x. Leads step x v in subst P (sym same ∙ e.root_same) (one_step step e.node v e.edge))
      (λ l. let P : ℕ → Type 0 = λ x. Leads step x v in subst P e.root_same (one_more step (root e.node) e.node v l e.edge))
      (from_root k e.node (omega (arith, e.nearer, h)) e.is_on))) (s.enters v up)

  to_root : (k v : ℕ) → far v ≤ k → on v ≡ true → (root v ≡ v) ⊎ Leads step v (root v)
  to_root zero v h up = ⊎_elim inl (λ (e : Leaves step on root far v). absurd (omega (arith, e.nearer, h))) (s.leaves v up)
  to_root (suc k) v h up = ⊎_elim inl (λ (e : Leaves step on root far v). inr (
      ⊎_elim
      (λ same. let P : ℕ → Type 0 = λ x. Leads step v x in subst P (sym same ∙ e.root_same) (one_step step v e.node e.edge))
      (λ l. let P : ℕ → Type 0 = λ x. Leads step v x in subst P e.root_same (leads_join step v e.node (root e.node) (one_step step v e.node e.edge) l))
      (to_root k e.node (omega (arith, e.nearer, h)) e.is_on))) (s.leaves v up)

  -- a root leads to itself
  root_turns : (v : ℕ) → on v ≡ true → root v ≡ v → Leads step v v
  root_turns v up same = let e : Turns step on root v = s.turns v up same in
      ⊎_elim
      (λ here. let P : ℕ → Type 0 = λ x. Leads step v x in subst P (sym here ∙ e.root_is) (one_step step v e.node e.edge))
      (λ l. let P : ℕ → Type 0 = λ x. Leads step v x in subst P e.root_is (leads_join step v e.node (root e.node) (one_step step v e.node e.edge) l))
      (to_root (far e.node) e.node (omega arith) e.is_on)

  on_always : (v : ℕ) → on v ≡ true → Leads step v v
  on_always v up = ⊎_elim
      (root_turns v up)
      (λ into. ⊎_elim (root_turns v up) (λ out. leads_join step v (root v) v out into) (to_root (far v) v (omega arith) up))
      (from_root (near v) v (omega arith) up)

  pub shown_on : (v : ℕ) → on v ≡ true → Leads step v v
  shown_on v up = on_always v up

  pub shown_off : (v : ℕ) → on v ≡ false → Leads step v v → ⊥
  shown_off v off l = off_never v off l
