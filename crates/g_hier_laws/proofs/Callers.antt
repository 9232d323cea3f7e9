-- The call lines of data spaces that call a VI, as callers, and the data spaces that they can enter.
use Rattle.std.proofs.Common.{◌≡◌, ⊎_elim, ℕ, zero, suc, ◌+◌, ◌<◌, ◌≤◌, ◌==◌, Bool, true, false, ◌&&◌, ◌||◌, cond, List, [], ◌∷◌, ◌++◌, map, length, Option, Some, None, refl, ap, ap₂, ◌∙◌, sym, arith, append_assoc, length-append, eqb-true, eq-eqb}
use Rattle.std.specs.Prelude.{slice_get}
use Rattle.std.specs.List.{sum_by}
use Rattle.std.specs.Set.{is_member}
use Rattle.std.proofs.lemmas.Bool.{false_from_ne_true, or_cases}
use Rattle.std.proofs.lemmas.List.Sums.{sum_by-cons}
use Rattle.g_diagram.specs.declared.hierarchy.Clones.{Clones}
use Rattle.g_diagram.specs.declared.hierarchy.Clones.TheVariants.{NonReentrant, Preallocated, Pool}
use Rattle.g_diagram.specs.declared.hierarchy.System.{System}
use Rattle.g_hier.specs.declared.linked.CallLine.{CallLine}
use Rattle.g_hier.specs.declared.linked.Caller.{Caller}
use Rattle.g_hier.specs.declared.linked.Outline.{Outline}
use Rattle.g_hier.specs.declared.linked.Placed.{Placed}
use Rattle.g_hier.specs.declared.linked.Space.{Space}
use Rattle.g_hier.specs.Counts.{one_if, calls_to}
use Rattle.g_hier.specs.LinkOrder.{system_for, pool_spaces, enterable, placed_by, entered_by, same_caller, same_space, has_met}
use Rattle.g_hier.specs.Outlines.{calls_at}
use Rattle.g_hier_laws.specs.Counted.{HaveOwnLines}
use Rattle.g_hier_laws.proofs.Spaces.{same, same_is, is_both}
use Rattle.g_hier_laws.proofs.Entered.{spaces_in, attempts, met_both}
use Rattle.g_hier_laws.proofs.Rising.{lines_on, lines_more}

-- what a call can enter of a VI, if there is one
abbrev pub enters_of : Option Outline → (vi : ℕ) → Caller → List Space
enters_of None v k = []
enters_of (Some o) v k = enterable o.clones v k

-- what some callers can enter
abbrev pub over : (Caller → List Space) → List Caller → List Space
over f [] = []
over f (k ∷ ks) = f k ++ over f ks

abbrev pub caller : (space : ℕ) → CallLine → Caller
caller i c = record { space = i; line = c.line }

-- the calls to a VI among some call lines of a data space
abbrev pub callers_at : (vi space : ℕ) → List CallLine → List Caller
callers_at v i [] = []
callers_at v i (c ∷ cs) = cond (c.vi == v) (caller i c ∷ callers_at v i cs) (callers_at v i cs)

-- and of data spaces, of which the first has a place
abbrev pub callers_of : List Outline → (vi place : ℕ) → List Placed → List Caller
callers_of os v i [] = []
callers_of os v i (p ∷ ps) = callers_at v i (calls_at os p.space.vi) ++ callers_of os v (suc i) ps

-- ---- how many they are

-- how many call lines of data spaces call a VI
abbrev pub calls_from : List Outline → (vi : ℕ) → List Space → ℕ
calls_from os v spaces = sum_by (λ s. calls_to v (calls_at os s.vi)) spaces

as_many_at : (v i : ℕ) (cs : List CallLine) → length (callers_at v i cs) ≡ calls_to v cs
as_many_at v i [] = refl
as_many_at v i (c ∷ cs) = by (c.vi == v) (as_many_at v i cs)
  where
    by : (b : Bool) → length (callers_at v i cs) ≡ calls_to v cs → length (cond b (caller i c ∷ callers_at v i cs) (callers_at v i cs)) ≡ one_if b + calls_to v cs
    by true e = omega (arith, e)
    by false e = omega (arith, e)

pub as_many_callers : (os : List Outline) (v i : ℕ) (ps : List Placed) → length (callers_of os v i ps) ≡ calls_from os v (spaces_in ps)
as_many_callers os v i [] = refl
as_many_callers os v i (p ∷ ps) =
    length-append (callers_at v i (calls_at os p.space.vi)) (callers_of os v (suc i) ps)
    ∙ ap₂ (λ n m. n + m) (as_many_at v i (calls_at os p.space.vi)) (as_many_callers os v (suc i) ps)
    ∙ sym (sum_by-cons (λ (s : Space). calls_to v (calls_at os s.vi)) p.space (spaces_in ps))

-- ---- what they can enter

over_both : (f : Caller → List Space) (ks js : List Caller) → over f (ks ++ js) ≡ over f ks ++ over f js
over_both f [] js = refl
over_both f (k ∷ ks) js = ap (λ l. f k ++ l) (over_both f ks js) ∙ sym (append_assoc (f k) (over f ks) (over f js))

pub one_is : (a q : Space) → is_member same (a ∷ []) q ≡ true → q.vi ≡ a.vi
one_is a q h = ⊎_elim (λ t. sym (ap (λ (s : Space). s.vi) ((same_is a q).0 t))) (λ t. absurd cc) (or_cases (same_space a q) false h)

pool_own : (v first n : ℕ) (q : Space) → is_member same (pool_spaces v first n) q ≡ true → q.vi ≡ v
pool_own v first zero q h = absurd cc
pool_own v first (suc n) q h =
    ⊎_elim (λ t. sym (ap (λ (s : Space). s.vi) ((same_is (record { vi = v; clone = first; caller = None }) q).0 t))) (pool_own v (suc first) n q)
    (or_cases (same_space (record { vi = v; clone = first; caller = None }) q) (is_member same (pool_spaces v (suc first) n) q) h)

enterable_own : (clones : Clones) (v : ℕ) (k : Caller) (q : Space) → is_member same (enterable clones v k) q ≡ true → q.vi ≡ v
enterable_own NonReentrant v k q h = one_is (record { vi = v; clone = 0; caller = None }) q h
enterable_own Preallocated v k q h = one_is (record { vi = v; clone = 0; caller = Some k }) q h
enterable_own (Pool n) v k q h = pool_own v 0 n q h

enters_own : (x : Option Outline) (v : ℕ) (k : Caller) (q : Space) → is_member same (enters_of x v k) q ≡ true → q.vi ≡ v
enters_own None v k q h = absurd cc
enters_own (Some o) v k q h = enterable_own o.clones v k q h

-- data spaces of the VI alone
pub over_own : (x : Option Outline) (v : ℕ) (ks : List Caller) (q : Space) → is_member same (over (enters_of x v) ks) q ≡ true → q.vi ≡ v
over_own x v [] q h = absurd cc
over_own x v (k ∷ ks) q h =
    ⊎_elim (enters_own x v k q) (over_own x v ks q)
    (or_cases (is_member same (enters_of x v k) q) (is_member same (over (enters_of x v) ks) q) (sym (is_both (enters_of x v k) (over (enters_of x v) ks) q) ∙ h))

placed_has : (system : System) (ss : List Space) (q : Space) → has_met (map (λ s. record { space = s; system = system }) ss) q ≡ is_member same ss q
placed_has system [] q = refl
placed_has system (s ∷ ss) q = ap (λ b. same_space s q || b) (placed_has system ss q)

placed_enters : (x : Option Outline) (v : ℕ) (k : Caller) (system : System) (q : Space) → has_met (placed_by x v k system) q ≡ is_member same (enters_of x v k) q
placed_enters None v k system q = refl
placed_enters (Some o) v k system q = placed_has (system_for o.system system) (enterable o.clones v k) q

module _ (os : List Outline) (v : ℕ) (q : Space) (own : q.vi ≡ v) where
  abbrev all : List Caller → List Space
  all ks = over (enters_of (slice_get os v) v) ks

  all_both : (ks js : List Caller) → is_member same (all (ks ++ js)) q ≡ (is_member same (all ks) q || is_member same (all js) q)
  all_both ks js = ap (λ l. is_member same l q) (over_both (enters_of (slice_get os v) v) ks js) ∙ is_both (all ks) (all js) q

  abbrev first : (i : ℕ) → System → CallLine → List Placed
  first i system c = placed_by (slice_get os c.vi) c.vi (caller i c) system

  entered_all : (i : ℕ) (system : System) (cs : List CallLine) → has_met (entered_by os i system cs) q ≡ is_member same (all (callers_at v i cs)) q
  entered_all i system [] = refl
  entered_all i system (c ∷ cs) = met_both (first i system c) (entered_by os i system cs) q ∙ by (c.vi == v) refl (entered_all i system cs)
    where
      by : (b : Bool) → (c.vi == v) ≡ b → has_met (entered_by os i system cs) q ≡ is_member same (all (callers_at v i cs)) q
          → (has_met (first i system c) q || has_met (entered_by os i system cs) q) ≡ is_member same (all (cond b (caller i c ∷ callers_at v i cs) (callers_at v i cs))) q
      by true e more =
          ap₂ (λ a b. a || b)
          (ap (λ u. has_met (placed_by (slice_get os u) u (caller i c) system) q) (eqb-true c.vi v e) ∙ placed_enters (slice_get os v) v (caller i c) system q) more
          ∙ sym (is_both (enters_of (slice_get os v) v (caller i c)) (all (callers_at v i cs)) q)
      by false e more =
          ap (λ a. a || has_met (entered_by os i system cs) q)
          (placed_enters (slice_get os c.vi) c.vi (caller i c) system q
          ∙ false_from_ne_true _ (λ t. let x : q.vi ≡ c.vi = enters_own (slice_get os c.vi) c.vi (caller i c) q t in let y : (c.vi == v) ≡ true = eq-eqb c.vi v (sym x ∙ own) in cc))
          ∙ more

  -- what call lines of data spaces can enter is what the callers among them can
  pub attempted : (i : ℕ) (ps : List Placed) → has_met (attempts os i ps) q ≡ is_member same (all (callers_of os v i ps)) q
  attempted i [] = refl
  attempted i (p ∷ ps) =
      met_both (entered_by os i p.system (calls_at os p.space.vi)) (attempts os (suc i) ps) q
      ∙ ap₂ (λ a b. a || b) (entered_all i p.system (calls_at os p.space.vi)) (attempted (suc i) ps)
      ∙ sym (all_both (callers_at v i (calls_at os p.space.vi)) (callers_of os v (suc i) ps))

-- ---- no caller stands twice

abbrev pub times : Caller → List Caller → ℕ
times k [] = 0
times k (j ∷ js) = one_if (same_caller (Some j) (Some k)) + times k js

times_both : (k : Caller) (xs ys : List Caller) → times k (xs ++ ys) ≡ times k xs + times k ys
times_both k [] ys = omega arith
times_both k (x ∷ xs) ys = omega (arith, times_both k xs ys)

second_if : (a b : Bool) → one_if (a && b) ≤ one_if b
second_if true b = omega arith
second_if false b = omega arith

at_most : (k : Caller) (v i : ℕ) (cs : List CallLine) → times k (callers_at v i cs) ≤ lines_on k.line cs
at_most k v i [] = omega arith
at_most k v i (c ∷ cs) = let le = by (c.vi == v) (at_most k v i cs) in let e = lines_more k.line c cs in omega (arith, e, le)
  where
    by : (b : Bool) → times k (callers_at v i cs) ≤ lines_on k.line cs → times k (cond b (caller i c ∷ callers_at v i cs) (callers_at v i cs)) ≤ one_if (c.line == k.line) + lines_on k.line cs
    by true le = let one = second_if (i == k.space) (c.line == k.line) in omega (arith, one, le)
    by false le = omega (arith, le)

elsewhere : (k : Caller) (v i : ℕ) (cs : List CallLine) → (i == k.space) ≡ false → times k (callers_at v i cs) ≡ 0
elsewhere k v i [] apart = refl
elsewhere k v i (c ∷ cs) apart = by (c.vi == v) (elsewhere k v i cs apart)
  where
    by : (b : Bool) → times k (callers_at v i cs) ≡ 0 → times k (cond b (caller i c ∷ callers_at v i cs) (callers_at v i cs)) ≡ 0
    by true e = let zero : one_if ((i == k.space) && (c.line == k.line)) ≡ 0 = ap (λ b. one_if (b && (c.line == k.line))) apart in omega (arith, zero, e)
    by false e = e

record Once (k : Caller) (i : ℕ) (ks : List Caller) : Type 0 where
  once : times k ks ≤ 1
  later : k.space < i → times k ks ≡ 0

module _ (os : List Outline) (lines : HaveOwnLines os) (v : ℕ) (k : Caller) where
  from_on : (i : ℕ) (ps : List Placed) → Once k i (callers_of os v i ps)
  from_on i [] = record { once = omega arith; later = λ lt. refl }
  from_on i (p ∷ ps) = by (i == k.space) refl (from_on (suc i) ps)
    where
      by : (b : Bool) → (i == k.space) ≡ b → Once k (suc i) (callers_of os v (suc i) ps) → Once k i (callers_of os v i (p ∷ ps))
      by true e rest =
          let cs : List CallLine = calls_at os p.space.vi in
          let here : i ≡ k.space = eqb-true i k.space e in
          let both = times_both k (callers_at v i cs) (callers_of os v (suc i) ps) in
          let most = at_most k v i cs in
          let one = lines p.space.vi k.line in
          let zero = rest.later (omega (arith, here)) in
          record { once = omega (arith, both, most, one, zero); later = λ lt. absurd (omega (arith, lt, here)) }
      by false e rest =
          let cs : List CallLine = calls_at os p.space.vi in
          let both = times_both k (callers_at v i cs) (callers_of os v (suc i) ps) in
          let none = elsewhere k v i cs e in
          let once = rest.once in
          record { once = omega (arith, both, none, once); later = λ lt. let zero = rest.later (omega (arith, lt)) in omega (arith, both, none, zero) }

  pub once_called : (i : ℕ) (ps : List Placed) → times k (callers_of os v i ps) ≤ 1
  once_called i ps = let o : Once k i (callers_of os v i ps) = from_on i ps in o.once
