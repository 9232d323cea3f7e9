-- What the search for an input that can't be the part of a cluster tells.
use Rattle.std.proofs.Common.{◌≡◌, ◌≤◌, ◌<◌, ◌+◌, ◌&&◌, ℕ, Bool, true, false, cond, List, [], ◌∷◌, Option, None, Some, length, nat_lt, refl, arith}
use Rattle.std.specs.Prelude.{nat_le}
use Rattle.std.specs.List.{list_all}
use Rattle.std.proofs.lemmas.Bool.Decides.{nat_tests}
use Rattle.g_types.specs.declared.ty.Ty.{Ty}
use Rattle.g_types.specs.declared.ty.Ty.TheVariants as ty
use Rattle.g_prims_definitions.specs.Row.{repeated, refused}
use Rattle.g_prims_definitions.specs.Rows.{is_shallow}
use Rattle.g_prims.specs.Refusals.{first_out}

chosen : (b : Bool) (k j : ℕ) (o : Option ℕ) (r : ℕ) → (o ≡ Some j → r ≡ j) → cond b o (Some (k + 1)) ≡ Some j → cond b r (k + 1) ≡ j
chosen true k j o r f e = f e
chosen false k j o r f e = cc

refused_there : (k j : ℕ) (ts : List Ty) → first_out k ts ≡ Some j → refused k 64 is_shallow ts ≡ j
refused_there k j [] e = absurd cc
refused_there k j (t ∷ ts) e = chosen (nat_lt k 64 && is_shallow t) k j (first_out (k + 1) ts) (refused (k + 1) 64 is_shallow ts) (refused_there (k + 1) j ts) e

both : (a b : Bool) → (a && b) ≡ true → (a ≡ true) × (b ≡ true)
both true true e = (refl, refl)
both true false e = absurd cc
both false b e = absurd cc

room : (a k : ℕ) → a + 1 + k ≤ 64 → nat_lt k 64 ≡ true
room a k h = grind (arith, nat_tests)

is_within : (a b : ℕ) → nat_le a b ≡ true → a ≤ b
is_within a b e = grind (arith, nat_tests)

within : (a b : ℕ) → a ≤ b → nat_le a b ≡ true
within a b h = grind (arith, nat_tests)

passes : (a b : Bool) (k : ℕ) (o : Option ℕ) → a ≡ true → b ≡ true → o ≡ None → cond (a && b) o (Some (k + 1)) ≡ None
passes true true k o e f g = g
passes true false k o e f g = absurd cc
passes false b k o e f g = absurd cc

none_out : (k : ℕ) (ts : List Ty) → length ts + k ≤ 64 → list_all is_shallow ts ≡ true → first_out k ts ≡ None
none_out k [] h e = refl
none_out k (t ∷ ts) h e =
    let p = both (is_shallow t) (list_all is_shallow ts) e in
    passes (nat_lt k 64) (is_shallow t) k (first_out (k + 1) ts) (room (length ts) k (omega arith)) p.0 (none_out (k + 1) ts (omega arith) p.1)

kept_both : (a b : Bool) (k : ℕ) (o : Option ℕ) → cond (a && b) o (Some (k + 1)) ≡ None → (a ≡ true) × (b ≡ true) × (o ≡ None)
kept_both true true k o e = (refl, refl, e)
kept_both true false k o e = absurd cc
kept_both false b k o e = absurd cc

is_room : (k : ℕ) → nat_lt k 64 ≡ true → k < 64
is_room k e = grind (arith, nat_tests)

both_true : (a b : Bool) → a ≡ true → b ≡ true → (a && b) ≡ true
both_true true b e f = f
both_true false b e f = e

all_in : (k : ℕ) (ts : List Ty) → k ≤ 64 → first_out k ts ≡ None → (length ts + k ≤ 64) × (list_all is_shallow ts ≡ true)
all_in k [] h e = (omega arith, refl)
all_in k (t ∷ ts) h e =
    let p = kept_both (nat_lt k 64) (is_shallow t) k (first_out (k + 1) ts) e in
    let lt = is_room k p.0 in
    let r = all_in (k + 1) ts (omega arith) p.2 in
    (omega arith, both_true (is_shallow t) (list_all is_shallow ts) p.1 r.1)

abbrev outs : List Ty → List Ty
outs ts = ty.Cluster ts ∷ []

by_test : (b : Bool) (x : List Ty) → b ≡ true → cond b (Some x) None ≡ Some x
by_test true x e = refl
by_test false x e = absurd cc

pub bundle_gives : (t : Ty) (ts : List Ty) → first_out 0 (t ∷ ts) ≡ None → repeated 64 is_shallow outs (t ∷ ts) ≡ Some (outs (t ∷ ts))
bundle_gives t ts e =
    let p = all_in 0 (t ∷ ts) (omega arith) e in
    by_test (nat_le (length (t ∷ ts)) 64 && list_all is_shallow (t ∷ ts)) (outs (t ∷ ts)) (both_true (nat_le (length (t ∷ ts)) 64) (list_all is_shallow (t ∷ ts)) (within (length (t ∷ ts)) 64 (omega arith)) p.1)

no_test : (b : Bool) (x : List Ty) → (b ≡ true → ⊥) → cond b (Some x) None ≡ None
no_test true x f = absurd (f refl)
no_test false x f = refl

not_both : (o : Option ℕ) (j : ℕ) → o ≡ None → o ≡ Some j → ⊥
not_both None j e f = absurd cc
not_both (Some k) j e f = absurd cc

pub bundle_refuses : (t : Ty) (ts : List Ty) (j : ℕ) → first_out 0 (t ∷ ts) ≡ Some j → (repeated 64 is_shallow outs (t ∷ ts) ≡ None) × (refused 0 64 is_shallow (t ∷ ts) ≡ j)
bundle_refuses t ts j e = (
  no_test (nat_le (length (t ∷ ts)) 64 && list_all is_shallow (t ∷ ts)) (outs (t ∷ ts))
      (λ h. let p = both (nat_le (length (t ∷ ts)) 64) (list_all is_shallow (t ∷ ts)) h in
      let few = is_within (length (t ∷ ts)) 64 p.0 in
      not_both (first_out 0 (t ∷ ts)) j (none_out 0 (t ∷ ts) (omega arith) p.1) e),
  refused_there 0 j (t ∷ ts) e,
)

pub all_refused : (ts : List Ty) (j : ℕ) → first_out 0 ts ≡ Some j → (repeated 64 is_shallow outs ts ≡ None) × (refused 0 64 is_shallow ts ≡ j)
all_refused [] j e = absurd cc
all_refused (t ∷ ts) j e = bundle_refuses t ts j e

pub ruleset bundles = (bundle_gives, bundle_refuses)
