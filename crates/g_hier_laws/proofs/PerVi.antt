-- How many data spaces each VI has in link order, by how many call lines of data spaces call it.
use Rattle.std.proofs.Common.{◌≡◌, ℕ, zero, suc, ◌+◌, ◌<◌, ◌≤◌, ◌==◌, Bool, true, false, ◌&&◌, ◌||◌, List, [], ◌∷◌, length, Option, Some, None, refl, ap, ap₂, ◌∙◌, sym, subst, arith, eqb-true, eq-eqb}
use Rattle.std.specs.Prelude.{slice_get}
use Rattle.std.specs.List.{IsDistinct, AllByRecursion}
use Rattle.std.specs.Set.{is_member}
use Rattle.std.proofs.lemmas.Bool.{and_left, and_right, false_from_ne_true}
use Rattle.g_diagram.specs.declared.hierarchy.Clones.{Clones}
use Rattle.g_diagram.specs.declared.hierarchy.Clones.TheVariants.{NonReentrant, Preallocated, Pool}
use Rattle.g_hier.specs.declared.linked.Caller.{Caller}
use Rattle.g_hier.specs.declared.linked.Outline.{Outline}
use Rattle.g_hier.specs.declared.linked.Placed.{Placed}
use Rattle.g_hier.specs.declared.linked.Space.{Space}
use Rattle.g_hier.specs.Counts.{one_if, spaces_for, count_for}
use Rattle.g_hier.specs.LinkOrder.{pool_spaces, enterable, same_caller, has_met, main_placed, AreInLinkOrder}
use Rattle.g_hier_laws.specs.Counted.{HaveOwnLines}
use Rattle.g_hier_laws.proofs.Spaces.{same, callers_same, is_both, none_twice, number, as_many}
use Rattle.g_hier_laws.proofs.Entered.{spaces_in, all_met, met_is, met_once}
use Rattle.g_hier_laws.proofs.Callers.{enters_of, over, one_is, over_own, callers_of, attempted, times, once_called}

-- what some callers can enter, none twice
record Listed (f : Caller → List Space) (ks : List Caller) (n : ℕ) : Type 0 where
  spaces : List Space
  distinct : IsDistinct same spaces
  members : (q : Space) → is_member same spaces q ≡ is_member same (over f ks) q
  long : length spaces ≡ n

one_alone : (a : Space) → IsDistinct same (a ∷ [])
unfolding IsDistinct
one_alone a = (tt, tt)

-- callers that can enter the same
again : (f : Caller → List Space) (ss : List Space) (ks : List Caller) (q : Space) → ((k : Caller) → f k ≡ ss) → (is_member same ss q || is_member same (over f ks) q) ≡ is_member same ss q
again f ss [] q each = end (is_member same ss q)
  where
    end : (b : Bool) → (b || false) ≡ b
    end true = refl
    end false = refl
again f ss (k ∷ ks) q each =
    ap (λ b. is_member same ss q || b) (is_both (f k) (over f ks) q ∙ ap (λ l. is_member same l q || is_member same (over f ks) q) (each k))
    ∙ twice (is_member same ss q) (is_member same (over f ks) q) ∙ again f ss ks q each
  where
    twice : (a b : Bool) → (a || (a || b)) ≡ (a || b)
    twice true b = refl
    twice false b = refl

shared : (f : Caller → List Space) (ss : List Space) (k : Caller) (ks : List Caller) → IsDistinct same ss → ((j : Caller) → f j ≡ ss) → Listed f (k ∷ ks) (length ss)
shared f ss k ks d each = record {
  spaces = ss;
  distinct = d;
  members = λ q. sym (is_both (f k) (over f ks) q ∙ ap (λ l. is_member same l q || is_member same (over f ks) q) (each k) ∙ again f ss ks q each);
  long = refl;
}

-- clones of a pool

pool_apart : (v first at n : ℕ) → first < at → AllByRecursion (λ s. same (record { vi = v; clone = first; caller = None }) s ≡ false) (pool_spaces v at n)
pool_apart v first at zero lt = tt
pool_apart v first at (suc n) lt =
    let apart : (at == first) ≡ false = grind (arith, lt) in
    (and_right (v == v) ((at == first) && true) (and_left (at == first) true apart), pool_apart v first (suc at) n (omega (arith, lt)))

pool_distinct : (v first n : ℕ) → IsDistinct same (pool_spaces v first n)
unfolding IsDistinct
pool_distinct v first zero = tt
pool_distinct v first (suc n) = (pool_apart v first (suc first) n (omega arith), pool_distinct v (suc first) n)

pool_long : (v first n : ℕ) → length (pool_spaces v first n) ≡ n
pool_long v first zero = refl
pool_long v first (suc n) = ap suc (pool_long v (suc first) n)

-- data spaces of their callers

none_if : (b : Bool) (n : ℕ) → one_if b + n ≡ 0 → b ≡ false
none_if true n e = absurd (omega (arith, e))
none_if false n e = refl

called_apart : (v : ℕ) (k : Caller) (ks : List Caller) → times k ks ≡ 0 → AllByRecursion (λ s. same (record { vi = v; clone = 0; caller = Some k }) s ≡ false) (over (enterable Preallocated v) ks)
called_apart v k [] none = tt
called_apart v k (j ∷ ks) none = (
  and_right (v == v) ((0 == 0) && same_caller (Some j) (Some k)) (and_right (0 == 0) (same_caller (Some j) (Some k)) (none_if (same_caller (Some j) (Some k)) (times k ks) none)),
  called_apart v k ks (omega (arith, none)),
)

called_distinct : (v : ℕ) (ks : List Caller) → ((k : Caller) → times k ks ≤ 1) → IsDistinct same (over (enterable Preallocated v) ks)
unfolding IsDistinct
called_distinct v [] once = tt
called_distinct v (k ∷ ks) once =
    let here : one_if (same_caller (Some k) (Some k)) ≡ 1 = ap one_if ((callers_same (Some k) (Some k)).1 refl) in
    let one = once k in
    (called_apart v k ks (omega (arith, here, one)), called_distinct v ks (λ j. let le = once j in omega (arith, le)))

called_long : (v : ℕ) (ks : List Caller) → length (over (enterable Preallocated v) ks) ≡ length ks
called_long v [] = refl
called_long v (k ∷ ks) = ap suc (called_long v ks)

prealloc_long : (n : ℕ) → spaces_for Preallocated n ≡ n
prealloc_long zero = refl
prealloc_long (suc n) = refl

-- so many as are counted
listed : (clones : Clones) (v : ℕ) (ks : List Caller) → ((k : Caller) → times k ks ≤ 1) → Listed (enterable clones v) ks (spaces_for clones (length ks))
listed Preallocated v ks once = record { spaces = over (enterable Preallocated v) ks; distinct = called_distinct v ks once; members = λ q. refl; long = called_long v ks ∙ sym (prealloc_long (length ks)) }
listed NonReentrant v [] once = record { spaces = []; distinct = none_twice; members = λ q. refl; long = refl }
listed (Pool n) v [] once = record { spaces = []; distinct = none_twice; members = λ q. refl; long = refl }
listed NonReentrant v (k ∷ ks) once = shared (enterable NonReentrant v) (enterable NonReentrant v k) k ks (one_alone _) (λ j. refl)
listed (Pool n) v (k ∷ ks) once =
    let P : ℕ → Type 0 = λ m. Listed (enterable (Pool n) v) (k ∷ ks) m in
    subst P (pool_long v 0 n) (shared (enterable (Pool n) v) (pool_spaces v 0 n) k ks (pool_distinct v 0 n) (λ j. refl))

-- how many data spaces a VI has that so many call
abbrev pub expected : Option Outline → (is_main : Bool) → (callers : ℕ) → ℕ
expected None is_main n = 0
expected (Some o) is_main n = count_for is_main o.clones n

listed_of : (x : Option Outline) (v : ℕ) (ks : List Caller) → ((k : Caller) → times k ks ≤ 1) → Listed (enters_of x v) ks (expected x false (length ks))
listed_of None v ks once = record { spaces = []; distinct = none_twice; members = λ q. sym (nothing ks q); long = refl }
  where
    nothing : (js : List Caller) (q : Space) → is_member same (over (enters_of None v) js) q ≡ false
    nothing [] q = refl
    nothing (j ∷ js) q = nothing js q
listed_of (Some o) v ks once = listed o.clones v ks once

-- MAIN's data space
abbrev main_space : Option Outline → (main : ℕ) → List Space
main_space None main = []
main_space (Some o) main = record { vi = main; clone = 0; caller = None } ∷ []

main_has : (x : Option Outline) (main : ℕ) (q : Space) → has_met (main_placed x main) q ≡ is_member same (main_space x main) q
main_has None main q = refl
main_has (Some o) main q = refl

main_own : (x : Option Outline) (main : ℕ) (q : Space) → is_member same (main_space x main) q ≡ true → q.vi ≡ main
main_own None main q h = absurd cc
main_own (Some o) main q h = one_is (record { vi = main; clone = 0; caller = None }) q h

module _ (os : List Outline) (main : ℕ) (met : List Placed) (order : AreInLinkOrder os main met) (lines : HaveOwnLines os)
    (uncalled : callers_of os main 0 met ≡ []) where
  has : (v : ℕ) (q : Space) → q.vi ≡ v → is_member same (spaces_in met) q ≡ (is_member same (main_space (slice_get os main) main) q || is_member same (over (enters_of (slice_get os v) v) (callers_of os v 0 met)) q)
  has v q own = met_is met q ∙ all_met os main met order q
      ∙ ap₂ (λ a b. a || b) (main_has (slice_get os main) main q) (attempted os v q own 0 met)

  main_number : number main (spaces_in met) ≡ expected (slice_get os main) true (length (callers_of os main 0 met))
  main_number =
      as_many (spaces_in met) (main_space (slice_get os main) main) main (met_once os main met order) (alone (slice_get os main))
      (λ q own. has main q own ∙ ap (λ ks. is_member same (main_space (slice_get os main) main) q || is_member same (over (enters_of (slice_get os main) main) ks) q) uncalled ∙ end (is_member same (main_space (slice_get os main) main) q))
      (main_own (slice_get os main) main)
      ∙ long (slice_get os main)
    where
      alone : (x : Option Outline) → IsDistinct same (main_space x main)
      alone None = none_twice
      alone (Some o) = one_alone _

      end : (b : Bool) → (b || false) ≡ b
      end true = refl
      end false = refl

      long : (x : Option Outline) → length (main_space x main) ≡ expected x true (length (callers_of os main 0 met))
      long None = refl
      long (Some o) = refl

  other_number : (v : ℕ) → (v == main) ≡ false → number v (spaces_in met) ≡ expected (slice_get os v) false (length (callers_of os v 0 met))
  other_number v other =
      let l : Listed (enters_of (slice_get os v) v) (callers_of os v 0 met) (expected (slice_get os v) false (length (callers_of os v 0 met))) =
      listed_of (slice_get os v) v (callers_of os v 0 met) (λ k. once_called os lines v k 0 met) in
      as_many (spaces_in met) l.spaces v (met_once os main met order) l.distinct
      (λ q own. has v q own ∙ ap (λ b. b || is_member same (over (enters_of (slice_get os v) v) (callers_of os v 0 met)) q) (not_main q own) ∙ sym (l.members q))
      (λ q h. over_own (slice_get os v) v (callers_of os v 0 met) q (sym (l.members q) ∙ h))
      ∙ l.long
    where
      not_main : (q : Space) → q.vi ≡ v → is_member same (main_space (slice_get os main) main) q ≡ false
      not_main q own = false_from_ne_true _ (λ t. let e : v ≡ main = sym own ∙ main_own (slice_get os main) main q t in let k : (v == main) ≡ true = eq-eqb v main e in cc)

  -- each VI has as many as its callers say
  pub number_is : (v : ℕ) → number v (spaces_in met) ≡ expected (slice_get os v) (v == main) (length (callers_of os v 0 met))
  number_is v = by (v == main) refl
    where
      by : (b : Bool) → (v == main) ≡ b → number v (spaces_in met) ≡ expected (slice_get os v) b (length (callers_of os v 0 met))
      by true e = let P : ℕ → Type 0 = λ u. number u (spaces_in met) ≡ expected (slice_get os u) true (length (callers_of os u 0 met)) in subst P (sym (eqb-true v main e)) main_number
      by false e = other_number v e
