-- Data spaces that are the same, and lists of data spaces in which none stands twice.
use Rattle.std.proofs.Common.{◌≡◌, ℕ, Bool, true, false, ◌&&◌, ◌||◌, ◌==◌, Decides, List, [], ◌∷◌, ◌++◌, length, filter, cond, Option, Some, None, refl, ap, ◌∙◌, sym, eqb-true, eq-eqb}
use Rattle.std.proofs.lemmas.Bool.{false_from_ne_true}
use Rattle.std.proofs.lemmas.Bool.Decides.{Decides-and, Decides-like, Decides-eqb}
use Rattle.std.proofs.lemmas.Map.Made.{length-from_same_keys, is_member-filter}
use Rattle.std.proofs.lemmas.List.Folds.{list_any-append}
use Rattle.std.specs.Cmp.{IsEquivalence, decided}
use Rattle.std.specs.List.{IsDistinct, AllByRecursion}
use Rattle.std.specs.Set.{is_member}
use Rattle.g_hier.specs.declared.linked.Caller.{Caller}
use Rattle.g_hier.specs.declared.linked.Space.{Space}
use Rattle.g_hier.specs.LinkOrder.{same_caller, same_space}

abbrev caller_of : Option Caller → Caller
caller_of None = record { space = 0; line = 0 }
caller_of (Some k) = k

pub callers_same : (a b : Option Caller) → Decides (same_caller a b) (a ≡ b)
callers_same None None = (λ e. refl, λ e. refl)
callers_same None (Some b) = (λ e. absurd cc, λ e. absurd cc)
callers_same (Some a) None = (λ e. absurd cc, λ e. absurd cc)
callers_same (Some a) (Some b) =
    Decides-like _ (λ e i. Some (record { space = e.0 i; line = e.1 i })) (λ e. (ap (λ k. (caller_of k).space) e, ap (λ k. (caller_of k).line) e))
    (Decides-and _ _ (Decides-eqb a.space b.space) (Decides-eqb a.line b.line))

pub same_is : (a b : Space) → Decides (same_space a b) (a ≡ b)
same_is a b =
    Decides-like _ (λ e i. record { vi = e.0 i; clone = e.1.0 i; caller = e.1.1 i }) (λ e. (ap (λ (s : Space). s.vi) e, (ap (λ (s : Space). s.clone) e, ap (λ (s : Space). s.caller) e)))
    (Decides-and _ _ (Decides-eqb a.vi b.vi) (Decides-and _ _ (Decides-eqb a.clone b.clone) (callers_same a.caller b.caller)))

-- whether the second is the first
abbrev pub same : (a b : Space) → Bool
same a b = same_space b a

same_decides : (a b : Space) → Decides (same a b) (a ≡ b)
same_decides a b = (λ t. sym ((same_is b a).0 t), λ e. (same_is b a).1 (sym e))

pub laws : IsEquivalence same
laws = decided same same_decides

pub none_twice : IsDistinct same []
unfolding IsDistinct
none_twice = tt

apart_fewer : (test : Space → Bool) (a : Space) (spaces : List Space) → AllByRecursion (λ s. same a s ≡ false) spaces → AllByRecursion (λ s. same a s ≡ false) (filter test spaces)
apart_fewer test a [] apart = tt
apart_fewer test a (s ∷ spaces) apart = by (test s) (apart_fewer test a spaces apart.1)
  where
    by : (b : Bool) → AllByRecursion (λ t. same a t ≡ false) (filter test spaces) → AllByRecursion (λ t. same a t ≡ false) (cond b (s ∷ filter test spaces) (filter test spaces))
    by true rest = (apart.0, rest)
    by false rest = rest

fewer : (test : Space → Bool) (spaces : List Space) → IsDistinct same spaces → IsDistinct same (filter test spaces)
unfolding IsDistinct
fewer test [] d = tt
fewer test (s ∷ spaces) d = by (test s) (fewer test spaces d.1)
  where
    by : (b : Bool) → IsDistinct same (filter test spaces) → IsDistinct same (cond b (s ∷ filter test spaces) (filter test spaces))
    by true rest = (apart_fewer test s spaces d.0, rest)
    by false rest = rest

-- how many data spaces of a list a VI has
abbrev pub number : (vi : ℕ) → List Space → ℕ
number v spaces = length (filter (λ s. s.vi == v) spaces)

-- as many data spaces of a VI as another list has, which is of this VI alone
pub as_many : (spaces others : List Space) (v : ℕ) → IsDistinct same spaces → IsDistinct same others
    → ((q : Space) → q.vi ≡ v → is_member same spaces q ≡ is_member same others q) → ((q : Space) → is_member same others q ≡ true → q.vi ≡ v)
    → number v spaces ≡ length others
as_many spaces others v d f members own =
    length-from_same_keys laws (filter (λ s. s.vi == v) spaces) others (fewer (λ s. s.vi == v) spaces d) f
    (λ q. is_member-filter laws (λ s. s.vi == v) q (λ x t. ap (λ (s : Space). s.vi == v) ((same_decides q x).0 t)) spaces ∙ by q (q.vi == v) refl)
  where
    with_true : (b : Bool) → (b && true) ≡ b
    with_true true = refl
    with_true false = refl

    with_false : (b : Bool) → (b && false) ≡ false
    with_false true = refl
    with_false false = refl

    by : (q : Space) (b : Bool) → (q.vi == v) ≡ b → (is_member same spaces q && b) ≡ is_member same others q
    by q true e = with_true (is_member same spaces q) ∙ members q (eqb-true q.vi v e)
    by q false e = with_false (is_member same spaces q) ∙ sym (false_from_ne_true (is_member same others q) (λ t. let x : q.vi ≡ v = own q t in let y : (q.vi == v) ≡ true = eq-eqb q.vi v x in cc))

pub is_both : (xs ys : List Space) (q : Space) → is_member same (xs ++ ys) q ≡ (is_member same xs q || is_member same ys q)
is_both xs ys q = list_any-append (same q) xs ys
