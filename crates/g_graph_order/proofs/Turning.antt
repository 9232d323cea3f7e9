-- Where each of some numbers has another of them before it, one comes before itself.
use Rattle.std.proofs.Common.{◌≡◌, ◌⊎◌, ⊎_elim, ℕ, zero, suc, ◌<◌, Bool, true, false, refl, sym, ap, subst, ◌∙◌, arith}

-- a chosen number below n that comes before a
pub record Before (chosen : ℕ → Bool) (R : ℕ → ℕ → Type 0) (n a : ℕ) : Type 0 where
  pub it : ℕ
  pub below : it < n
  pub passes : chosen it ≡ true
  pub leads : R it a

last_or : (k n : ℕ) → k < suc n → (k ≡ n) ⊎ (k < n)
last_or k n lt = grind arith

clash : {T : Type 0} (b : Bool) → b ≡ true → b ≡ false → T
clash b e f = absurd cc

module _ (chosen : ℕ → Bool) (R : ℕ → ℕ → Type 0) (joins : (a b c : ℕ) → R a b → R b c → R a c) where
  abbrev Walks : ℕ → Type 0
  Walks n = (a : ℕ) → a < n → chosen a ≡ true → Before chosen R n a

  abbrev Turns : Type 0
  Turns = (v : ℕ) × R v v

  -- a walk that goes round the last number
  around : (n a : ℕ) → (R n a → Before chosen R n a) → Before chosen R (suc n) a → Before chosen R n a
  around n a past b = ⊎_elim
      (λ same. past (let P : ℕ → Type 0 = λ x. R x a in subst P same b.leads))
      (λ lt. record { it = b.it; below = lt; passes = b.passes; leads = b.leads })
      (last_or b.it n b.below)

  step : (n : ℕ) → Walks (suc n) → (Walks n → (a : ℕ) → a < n → chosen a ≡ true → Turns) → (t : Bool) → chosen n ≡ t → (a : ℕ) → a < suc n → chosen a ≡ true → Turns
  step n walks rest true e a lt h =
      let b = walks n (omega arith) e in
      ⊎_elim
      (λ same. (n, let P : ℕ → Type 0 = λ x. R x n in subst P same b.leads))
      (λ below. rest (λ c low g. around n c (λ r. record { it = b.it; below = below; passes = b.passes; leads = joins b.it n c b.leads r }) (walks c (omega arith) g)) b.it below b.passes)
      (last_or b.it n b.below)
  step n walks rest false e a lt h =
      ⊎_elim
      (λ same. clash (chosen n) (ap chosen (sym same) ∙ h) e)
      (λ below. rest (λ c low g. let b = walks c (omega arith) g in
      ⊎_elim
      (λ same. clash (chosen n) (ap chosen (sym same) ∙ b.passes) e)
      (λ less. record { it = b.it; below = less; passes = b.passes; leads = b.leads })
      (last_or b.it n b.below)) a below h)
      (last_or a n lt)

  pub turns : (n : ℕ) → Walks n → (a : ℕ) → a < n → chosen a ≡ true → (v : ℕ) × R v v
  turns zero walks a lt h = absurd (omega (arith, lt))
  turns (suc n) walks a lt h = step n walks (turns n) (chosen n) refl a lt h
