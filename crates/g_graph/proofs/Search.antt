-- A search that marks what it finds.
use Rattle.std.proofs.Common.{◌≡◌, ◌⊎◌, inl, inr, ⊎_elim, ℕ, zero, suc, Bool, true, false, not, ◌&&◌, ◌||◌, ◌==◌, refl, sym, ap, ◌∙◌, arith}
use Rattle.std.proofs.lemmas.Bool.{cases_eq}
use Rattle.std.proofs.Common.{List, [], ◌∷◌, ◌++◌, length}
use Rattle.std.proofs.lemmas.List.Folds.{list_any-append}
use Rattle.std.specs.Prelude.{slice_get, Some}
use Rattle.g_graph.specs.Graph.{has}
use Rattle.g_diagram.specs.Leads.{Walk, Leads}

-- marks that begin with the first steps and are closed under steps have all that is led to
walk_marked : (step : ℕ → ℕ → Bool) (marked : ℕ → Bool) (a : ℕ) → ((b : ℕ) → step a b ≡ true → marked b ≡ true)
    → ((x y : ℕ) → marked x ≡ true → step x y ≡ true → marked y ≡ true) → (n b : ℕ) → Walk step n a b → marked b ≡ true
walk_marked step marked a first closed zero b w = first b w
walk_marked step marked a first closed (suc n) b w = closed w.0 b (walk_marked step marked a first closed n w.0 w.1) w.2

pub leads_marked : (step : ℕ → ℕ → Bool) (marked : ℕ → Bool) (a : ℕ) → ((b : ℕ) → step a b ≡ true → marked b ≡ true)
    → ((x y : ℕ) → marked x ≡ true → step x y ≡ true → marked y ≡ true) → (b : ℕ) → Leads step a b → marked b ≡ true
leads_marked step marked a first closed b l = walk_marked step marked a first closed l.0 b l.1

pub one_step : (step : ℕ → ℕ → Bool) (a b : ℕ) → step a b ≡ true → Leads step a b
one_step step a b e = (0, e)

pub one_more : (step : ℕ → ℕ → Bool) (a c b : ℕ) → Leads step a c → step c b ≡ true → Leads step a b
one_more step a c b l e = (suc l.0, (c, l.1, e))

-- what a search keeps, where m says what is marked and s what is on the stack
pub record Found (step : ℕ → ℕ → Bool) (from : ℕ) (m s : ℕ → Bool) : Type 0 where
  pub sound : (b : ℕ) → m b ≡ true → Leads step from b
  pub on : (b : ℕ) → s b ≡ true → m b ≡ true
  pub first : (b : ℕ) → step from b ≡ true → m b ≡ true
  pub closed : (a b : ℕ) → m a ≡ true → s a ≡ false → step a b ≡ true → m b ≡ true

or_left : (a b : Bool) → a ≡ true → (a || b) ≡ true
or_left a b h = ap (λ x. x || b) h

or_right : (a b : Bool) → b ≡ true → (a || b) ≡ true
or_right true b h = refl
or_right false b h = h

pub or_cases : (a b : Bool) → (a || b) ≡ true → (a ≡ true) ⊎ (b ≡ true)
or_cases true b h = inl refl
or_cases false b h = inr h

and_first : (a b : Bool) → (a && b) ≡ true → a ≡ true
and_first true b h = refl
and_first false b h = h

pub found_start : (step : ℕ → ℕ → Bool) (from : ℕ) (m s : ℕ → Bool) → ((b : ℕ) → m b ≡ step from b) → ((b : ℕ) → s b ≡ m b) → Found step from m s
found_start step from m s marks stack = record {
  sound = λ b h. one_step step from b (sym (marks b) ∙ h);
  on = λ b h. sym (stack b) ∙ h;
  first = λ b h. marks b ∙ h;
  closed = λ a b ha sa e. grind (arith, stack a);
}

module _ (step : ℕ → ℕ → Bool) (from v : ℕ) (m n s u t : ℕ → Bool) (popped : (b : ℕ) → s b ≡ (u b || (v == b))) (marks : (b : ℕ) → n b ≡ (m b || step v b)) (stack : (b : ℕ) → t b ≡ (u b || (n b && not (m b)))) (f : Found step from m s) where
  v_marked : m v ≡ true
  v_marked = f.on v (popped v ∙ grind arith)

  kept : (b : ℕ) → m b ≡ true → n b ≡ true
  kept b h = marks b ∙ or_left (m b) (step v b) h

  sound_next : (b : ℕ) → n b ≡ true → Leads step from b
  sound_next b h = ⊎_elim (λ e. f.sound b e) (λ e. one_more step from v b (f.sound v v_marked) e) (or_cases (m b) (step v b) (sym (marks b) ∙ h))

  on_next : (b : ℕ) → t b ≡ true → n b ≡ true
  on_next b h = ⊎_elim (λ e. kept b (f.on b (popped b ∙ or_left (u b) (v == b) e))) (λ e. and_first (n b) (not (m b)) e) (or_cases (u b) (n b && not (m b)) (sym (stack b) ∙ h))

  closed_next : (a b : ℕ) → n a ≡ true → t a ≡ false → step a b ≡ true → n b ≡ true
  closed_next a b ha ta e = ⊎_elim
      (λ same. marks b ∙ grind (arith, same, e))
      (λ apart. kept b (f.closed a b (grind (arith, ha, ta, stack a)) (grind (arith, ha, ta, stack a, popped a, apart)) e))
      (cases_eq v a)

  pub found_next : Found step from n t
  found_next = record { sound = sound_next; on = on_next; first = λ b h. kept b (f.first b h); closed = closed_next }

pub found_all : (step : ℕ → ℕ → Bool) (from : ℕ) (m s : ℕ → Bool) → Found step from m s → ((a : ℕ) → s a ≡ false) → (b : ℕ) → Leads step from b → m b ≡ true
found_all step from m s f none b l = leads_marked step m from f.first (λ x y mx e. f.closed x y mx (none x) e) b l

or_false : (a b : Bool) → (a || (b || false)) ≡ (a || b)
or_false true b = refl
or_false false true = refl
or_false false false = refl

pub has_push : (xs ys : List ℕ) (v b : ℕ) → xs ≡ ys ++ v ∷ [] → has xs b ≡ (has ys b || (v == b))
has_push xs ys v b e = ap (λ zs. has zs b) e ∙ list_any-append (λ c. c == b) ys (v ∷ []) ∙ or_false (has ys b) (v == b)

pub has_none : (xs : List ℕ) → length xs ≡ 0 → (b : ℕ) → has xs b ≡ false
has_none [] e b = refl
has_none (x ∷ xs) e b = cc

here : (x y : ℕ) (b : Bool) → x ≡ y → ((x == y) || b) ≡ true
here x y b e = grind (arith, e)

pub has_at : (xs : List ℕ) (k x : ℕ) → slice_get xs k ≡ Some x → has xs x ≡ true
has_at [] k x e = cc
has_at (y ∷ ys) zero x e = here y x (has ys x) cc
has_at (y ∷ ys) (suc k) x e = or_right (y == x) (has ys x) (has_at ys k x e)

pub same_number : (x y : ℕ) → (x == y) ≡ true → x ≡ y
same_number x y e = grind (arith, e)
