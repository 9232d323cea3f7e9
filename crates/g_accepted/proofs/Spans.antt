-- Counts by lines: at most one on each line from a first on and below another, and none elsewhere.
use Rattle.std.proofs.Common.{◌≡◌, ◌⊎◌, ⊎_elim, ℕ, ◌+◌, ◌<◌, ◌≤◌, ◌∙◌, arith}

pub record Spans (low high : ℕ) (f : ℕ → ℕ) : Type 0 where
  pub once : (v : ℕ) → f v ≤ 1
  pub before : (v : ℕ) → v < low → f v ≡ 0
  pub after : (v : ℕ) → high ≤ v → f v ≡ 0

pub nowhere : (low high : ℕ) (f : ℕ → ℕ) → ((v : ℕ) → f v ≡ 0) → Spans low high f
nowhere low high f none = record {
  once = λ v. let x : f v ≡ 0 = none v in omega (arith, x);
  before = λ v lt. none v;
  after = λ v le. none v;
}

pub wider : (low lower high higher : ℕ) (f : ℕ → ℕ) → lower ≤ low → high ≤ higher → Spans low high f → Spans lower higher f
wider low lower high higher f l h s = record {
  once = s.once;
  before = λ v lt. s.before v (omega (arith, lt, l));
  after = λ v le. s.after v (omega (arith, le, h));
}

pub alike : (low high : ℕ) (f g : ℕ → ℕ) → ((v : ℕ) → g v ≡ f v) → Spans low high f → Spans low high g
alike low high f g same s = record {
  once = λ v. let x : f v ≤ 1 = s.once v in let e : g v ≡ f v = same v in omega (arith, x, e);
  before = λ v lt. same v ∙ s.before v lt;
  after = λ v le. same v ∙ s.after v le;
}

below_or : (v n : ℕ) → (v < n) ⊎ (n ≤ v)
below_or v n = grind arith

-- one after the other
pub both : (low mid high : ℕ) (f g : ℕ → ℕ) → low ≤ mid → mid ≤ high → Spans low mid f → Spans mid high g → Spans low high (λ v. f v + g v)
both low mid high f g l h s t = record {
  once = λ v. ⊎_elim
      (λ lt. let x : f v ≤ 1 = s.once v in let y : g v ≡ 0 = t.before v lt in omega (arith, x, y))
      (λ le. let x : f v ≡ 0 = s.after v le in let y : g v ≤ 1 = t.once v in omega (arith, x, y))
      (below_or v mid);
  before = λ v lt. let x : f v ≡ 0 = s.before v lt in let y : g v ≡ 0 = t.before v (omega (arith, lt, l)) in omega (arith, x, y);
  after = λ v le. let x : f v ≡ 0 = s.after v (omega (arith, le, h)) in let y : g v ≡ 0 = t.after v le in omega (arith, x, y);
}
