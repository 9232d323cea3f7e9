-- Where nothing leads to itself, each chain that leads to a number ends.
use Rattle.std.proofs.Common.{◌≡◌, ◌⊎◌, ⊎_elim, ℕ, zero, suc, ◌<◌, Bool, sym, subst, arith}
use Rattle.g_diagram.specs.Leads.{Walk, Leads}

-- all chains of numbers below n that lead to a number end
pub data Ends (R : ℕ → ℕ → Type 0) (n : ℕ) : ℕ → Type 0 where
  ends : (v : ℕ) → ((a : ℕ) → a < n → R a v → Ends R n a) → Ends R n v

last_or : (k n : ℕ) → k < suc n → (k ≡ n) ⊎ (k < n)
last_or k n lt = grind arith

module _ (R : ℕ → ℕ → Type 0) (joins : (a b c : ℕ) → R a b → R b c → R a c) (apart : (v : ℕ) → R v v → ⊥) where
  -- a number to which n doesn't lead
  without : (n v : ℕ) → Ends R n v → (R n v → ⊥) → Ends R (suc n) v
  without n v (ends _ h) none = ends v (λ a lt r.
      ⊎_elim
      (λ same. absurd (none (let P : ℕ → Type 0 = λ x. R x v in subst P same r)))
      (λ less. without n a (h a less r) (λ q. none (joins n a v q r)))
      (last_or a n lt))

  more : (n v : ℕ) → Ends R (suc n) n → Ends R n v → Ends R (suc n) v
  more n v last (ends _ h) = ends v (λ a lt r.
      ⊎_elim
      (λ same. subst (Ends R (suc n)) (sym same) last)
      (λ less. more n a last (h a less r))
      (last_or a n lt))

  pub all_end : (n v : ℕ) → Ends R n v
  all_end zero v = ends v (λ a lt r. absurd (omega (arith, lt)))
  all_end (suc n) v = more n v (without n n (all_end n n) (apart n)) (all_end n v)

-- what leads on from there
then_walk : (step : ℕ → ℕ → Bool) (m a b c : ℕ) → Leads step a b → Walk step m b c → Leads step a c
then_walk step zero a b c l w = (suc l.0, (b, l.1, w))
then_walk step (suc m) a b c l w =
    let k : Leads step a w.0 = then_walk step m a b w.0 l w.1 in
    (suc k.0, (w.0, k.1, w.2))

pub leads_on : (step : ℕ → ℕ → Bool) (a b c : ℕ) → Leads step a b → Leads step b c → Leads step a c
leads_on step a b c l m = then_walk step m.0 a b c l m.1
