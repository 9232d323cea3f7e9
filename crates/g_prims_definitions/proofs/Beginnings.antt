-- The place that the reading of a row tells is where the types break off.
use Rattle.std.proofs.Common.{◌≡◌, ◌≤◌, ◌<◌, ℕ, zero, suc, ◌+◌, Bool, true, false, cond, ◌&&◌, List, [], ◌∷◌, ◌++◌, length, take, Option, None, Some, refl, ap, sym, ◌∙◌, subst, arith}
use Rattle.std.specs.Prelude.{nat_le, nat_lt}
use Rattle.std.specs.List.{list_all}
use Rattle.std.proofs.lemmas.Bool.Decides.{nat_tests}
use Rattle.std.proofs.lemmas.List.{append-nil}
use Rattle.g_types.specs.declared.ty.Ty.{Ty}
use Rattle.g_prims_definitions.specs.Row.{Row, Stops, Reads, Repeats, read, repeated, refused, place}

pub record BeginsRow (r : Row) (ts : List Ty) : Type 0 where
  pub further : List Ty
  pub outs : List Ty
  pub row : read r (ts ++ further) ≡ Some outs

-- from each place that isn't the end, some types go on to outputs
abbrev pub Goes : Row → Type 0
Goes Stops = Unit {0}
Goes (Reads outs next) = BeginsRow (Reads outs next) [] × ((t : Ty) → Goes (next t))
Goes (Repeats most allowed outs) = (1 ≤ most) × (t : Ty) × (allowed t ≡ true)

pub data Found (k : ℕ) (r : Row) (ts : List Ty) : Type 0 where
  stopped : ((us : List Ty) → read r us ≡ None) → place k r ts ≡ k → Found k r ts
  found : (n : ℕ) → place k r ts ≡ k + n + 1 → n ≤ length ts → BeginsRow r (take n ts) → (n < length ts → BeginsRow r (take (suc n) ts) → ⊥) → Found k r ts

no_outs : (o : Option (List Ty)) (us : List Ty) → o ≡ None → o ≡ Some us → ⊥
no_outs None us e f = absurd cc
no_outs (Some vs) us e f = absurd cc

-- so many repeated inputs are allowed, and no more
record Run (k most : ℕ) (allowed : Ty → Bool) (ts : List Ty) : Type 0 where
  count : ℕ
  placed : refused k most allowed ts ≡ k + count + 1
  within : count ≤ length ts
  room : count + k ≤ most
  all : list_all allowed (take count ts) ≡ true
  no_more : count < length ts → count + k < most → list_all allowed (take (suc count) ts) ≡ true → ⊥

is_less : (k most : ℕ) → nat_lt k most ≡ true → k + 1 ≤ most
is_less k most e = grind (arith, nat_tests)

is_not_less : (k most : ℕ) → nat_lt k most ≡ false → k < most → ⊥
is_not_less k most e h = grind (arith, nat_tests)

one_fails : (b : Bool) → b ≡ false → (b && true) ≡ true → ⊥
one_fails true e f = absurd cc
one_fails false e f = absurd cc

both : (a b : Bool) → a ≡ true → b ≡ true → (a && b) ≡ true
both true b e f = f
both false b e f = e

second_of : (a b : Bool) → (a && b) ≡ true → b ≡ true
second_of true b e = e
second_of false b e = absurd cc

first_of : (a b : Bool) → (a && b) ≡ true → a ≡ true
first_of true b e = refl
first_of false b e = absurd cc

run_step : (k most : ℕ) (allowed : Ty → Bool) (t : Ty) (ts : List Ty) → k ≤ most → (a b : Bool) → nat_lt k most ≡ a → allowed t ≡ b → (k + 1 ≤ most → Run (k + 1) most allowed ts) → Run k most allowed (t ∷ ts)
run_step k most allowed t ts h false b lt is go = record {
  count = 0;
  placed = ap (λ c. cond (c && allowed t) (refused (k + 1) most allowed ts) (k + 1)) lt ∙ omega arith;
  within = omega arith;
  room = omega arith;
  all = refl;
  no_more = λ l m all. is_not_less k most lt (omega arith);
}
run_step k most allowed t ts h true false lt is go = record {
  count = 0;
  placed = ap (λ c. cond (c && allowed t) (refused (k + 1) most allowed ts) (k + 1)) lt ∙ ap (λ c. cond c (refused (k + 1) most allowed ts) (k + 1)) is ∙ omega arith;
  within = omega arith;
  room = omega arith;
  all = refl;
  no_more = λ l m all. one_fails (allowed t) is all;
}
run_step k most allowed t ts h true true lt is go =
    let r = go (is_less k most lt) in
    let n = r.count in
    record {
      count = suc n;
      placed = ap (λ c. cond (c && allowed t) (refused (k + 1) most allowed ts) (k + 1)) lt ∙ ap (λ c. cond c (refused (k + 1) most allowed ts) (k + 1)) is ∙ r.placed ∙ omega arith;
      within = let w = r.within in omega arith;
      room = let w = r.room in omega arith;
      all = both (allowed t) (list_all allowed (take n ts)) is r.all;
      no_more = λ l m all. r.no_more (omega arith) (omega arith) (second_of (allowed t) (list_all allowed (take (suc n) ts)) all);
    }

run_at : (k most : ℕ) (allowed : Ty → Bool) (ts : List Ty) → k ≤ most → Run k most allowed ts
run_at k most allowed [] h = record { count = 0; placed = omega arith; within = omega arith; room = omega arith; all = refl; no_more = λ l m all. absurd (omega arith) }
run_at k most allowed (t ∷ ts) h = run_step k most allowed t ts h (nat_lt k most) (allowed t) refl refl (run_at (k + 1) most allowed ts)

-- repeated inputs

is_within : (a b : ℕ) → a ≤ b → nat_le a b ≡ true
is_within a b h = grind (arith, nat_tests)

within_is : (a b : ℕ) → nat_le a b ≡ true → a ≤ b
within_is a b e = grind (arith, nat_tests)

gives_all : (most : ℕ) (allowed : Ty → Bool) (outs : List Ty → List Ty) (x : Ty) (xs : List Ty) → length (x ∷ xs) ≤ most → list_all allowed (x ∷ xs) ≡ true → repeated most allowed outs (x ∷ xs) ≡ Some (outs (x ∷ xs))
gives_all most allowed outs x xs h all =
    ap (λ b. cond b (Some (outs (x ∷ xs))) None) (both (nat_le (length (x ∷ xs)) most) (list_all allowed (x ∷ xs)) (is_within (length (x ∷ xs)) most h) all)

pub begins_all : (most : ℕ) (allowed : Ty → Bool) (outs : List Ty → List Ty) (xs : List Ty) → Goes (Repeats most allowed outs) → length xs ≤ most → list_all allowed xs ≡ true → BeginsRow (Repeats most allowed outs) xs
begins_all most allowed outs [] g h all = record { further = g.1 ∷ []; outs = outs (g.1 ∷ []); row = gives_all most allowed outs g.1 [] g.0 (both (allowed g.1) true g.2 refl) }
begins_all most allowed outs (x ∷ xs) g h all = record {
  further = [];
  outs = outs (x ∷ xs);
  row = ap (repeated most allowed outs) (append-nil (x ∷ xs)) ∙ gives_all most allowed outs x xs h all;
}

record Allowed (most : ℕ) (allowed : Ty → Bool) (xs : List Ty) : Type 0 where
  few : length xs ≤ most
  all : list_all allowed xs ≡ true

by_test : (b : Bool) (o : List Ty) (us : List Ty) → cond b (Some o) None ≡ Some us → b ≡ true
by_test true o us e = refl
by_test false o us e = absurd cc

all_of : (most : ℕ) (allowed : Ty → Bool) (outs : List Ty → List Ty) (xs us : List Ty) → repeated most allowed outs xs ≡ Some us → Allowed most allowed xs
all_of most allowed outs [] us e = absurd cc
all_of most allowed outs (x ∷ xs) us e =
    let b = by_test (nat_le (length (x ∷ xs)) most && list_all allowed (x ∷ xs)) (outs (x ∷ xs)) us e in
    record {
      few = within_is (length (x ∷ xs)) most (first_of (nat_le (length (x ∷ xs)) most) (list_all allowed (x ∷ xs)) b);
      all = second_of (nat_le (length (x ∷ xs)) most) (list_all allowed (x ∷ xs)) b;
    }

all_front : (allowed : Ty → Bool) (xs ys : List Ty) → list_all allowed (xs ++ ys) ≡ true → list_all allowed xs ≡ true
all_front allowed [] ys e = refl
all_front allowed (x ∷ xs) ys e = both (allowed x) (list_all allowed xs) (first_of (allowed x) (list_all allowed (xs ++ ys)) e) (all_front allowed xs ys (second_of (allowed x) (list_all allowed (xs ++ ys)) e))

long_front : (n : ℕ) (xs ys : List Ty) → n ≤ length xs → n ≤ length (take n xs ++ ys)
long_front zero xs ys h = omega arith
long_front (suc n) [] ys h = absurd (omega arith)
long_front (suc n) (x ∷ xs) ys h = let e = long_front n xs ys (omega arith) in omega arith

long_taken : (n : ℕ) (xs : List Ty) → length (take n xs) ≤ n
long_taken zero xs = omega arith
long_taken (suc n) [] = omega arith
long_taken (suc n) (x ∷ xs) = let e = long_taken n xs in omega arith

found_repeated : (k most : ℕ) (allowed : Ty → Bool) (outs : List Ty → List Ty) (ts : List Ty) → Goes (Repeats most allowed outs) → Run k (k + most) allowed ts → Found k (Repeats most allowed outs) ts
found_repeated k most allowed outs ts g r =
    let n = r.count in
    let long = long_taken n ts in
    let room = r.room in
    found n r.placed r.within (begins_all most allowed outs (take n ts) g (omega arith) r.all)
    (λ l b. let a = all_of most allowed outs (take (suc n) ts ++ b.further) b.outs b.row in
    let f = long_front (suc n) ts b.further (omega arith) in
    let few = a.few in
    r.no_more l (omega arith) (all_front allowed (take (suc n) ts) b.further a.all))

-- any row

after_one : (k : ℕ) (outs : Option (List Ty)) (next : Ty → Row) (t : Ty) (ts : List Ty) → BeginsRow (Reads outs next) [] → Found (k + 1) (next t) ts → Found k (Reads outs next) (t ∷ ts)
after_one k outs next t ts b (stopped f p) = found 0 (p ∙ omega arith) (omega arith) b (λ l c. no_outs (read (next t) c.further) c.outs (f c.further) c.row)
after_one k outs next t ts b (found n p w c more) =
    found (suc n) (p ∙ omega arith) (omega arith) (record { further = c.further; outs = c.outs; row = c.row }) (λ l d. more (omega arith) (record { further = d.further; outs = d.outs; row = d.row }))

pub found_at : (k : ℕ) (r : Row) (ts : List Ty) → Goes r → read r ts ≡ None → Found k r ts
found_at k Stops ts g e = stopped (λ us. refl) refl
found_at k (Reads outs next) [] g e = found 0 (omega arith) (omega arith) g.0 (λ l c. absurd (omega arith))
found_at k (Reads outs next) (t ∷ ts) g e = after_one k outs next t ts g.0 (found_at (k + 1) (next t) ts (g.1 t) e)
found_at k (Repeats most allowed outs) ts g e = found_repeated k most allowed outs ts g (run_at k (k + most) allowed ts (omega arith))
