-- The number of a key is the place of the first that is equal to it, or how many there are.
use Rattle.std.proofs.Common.{◌≡◌, ℕ, suc, ◌+◌, ◌<◌, ◌==◌, Bool, true, false, ◌&&◌, List, [], ◌∷◌, map, length, drop, get_or, drop-cons, refl, ap, ◌∙◌, arith}
use Rattle.std.specs.Prelude.{if◌then◌else◌, Option, Some, None}
use Rattle.std.specs.declared.cmp.Ordering.{Ordering}
use Rattle.std.specs.Ordering.{is_eq}
use Rattle.std.specs.Option.{unwrap_or}
use Rattle.std.specs.Str.{bytes_eq}
use Rattle.g_hier.specs.declared.linked.Caller.{Caller}
use Rattle.g_hier.specs.declared.linked.Space.{Space}
use Rattle.g_hier.specs.LinkOrder.{same_caller, same_space}
use Rattle.g_hier.specs.Walking.{space_cmp}
use Rattle.g_hier.proofs.Walks.{space_same}
use Rattle.g_frames.specs.declared.program.QueueName.{QueueName}
use Rattle.g_frames.specs.Panels.{place_of}
use Rattle.g_frames.specs.Program.{FlatVi, place_where, numbered}
use Rattle.g_vi_tables.proofs.KeyLemmas.{is_eq-pair}
use Rattle.g_program.specs.Numbers.{number_by, place_by}
use Rattle.g_program.specs.Tables.{line_cmp}

number-place : {K : Type 0} (cmp : K → K → Ordering) (n m : ℕ) (q : K) (ks : List K) → m ≡ n + length ks → unwrap_or (number_by cmp n q ks) m ≡ n + place_by cmp q ks
number-place cmp n m q [] h = omega (arith, h)
number-place cmp n m q (k ∷ ks) h = by (is_eq (cmp k q)) (number-place cmp (n + 1) m q ks (omega (arith, h)))
  where
    by : (b : Bool) → unwrap_or (number_by cmp (n + 1) q ks) m ≡ n + 1 + place_by cmp q ks
        → unwrap_or (if b then Some n else number_by cmp (n + 1) q ks) m ≡ n + (if b then 0 else suc (place_by cmp q ks))
    by true e = omega arith
    by false e = e ∙ (let f : n + 1 + place_by cmp q ks ≡ n + suc (place_by cmp q ks) = omega arith in f)

-- what is found, or the count where nothing is
pub place-found : {K : Type 0} (cmp : K → K → Ordering) (count : ℕ) (q : K) (ks : List K) (o : Option ℕ) → count ≡ length ks → o ≡ number_by cmp 0 q ks → unwrap_or o count ≡ place_by cmp q ks
place-found cmp count q ks o e f =
    let g : unwrap_or (number_by cmp 0 q ks) count ≡ 0 + place_by cmp q ks = number-place cmp 0 count q ks (omega (arith, e)) in
    ap (λ x. unwrap_or x count) f ∙ (let h : unwrap_or (number_by cmp 0 q ks) count ≡ place_by cmp q ks = omega (arith, g) in h)

-- from the key at a place on
pub number-at : {K : Type 0} (cmp : K → K → Ordering) (i : ℕ) (q d : K) (ks : List K) → i < length ks
    → number_by cmp i q (drop i ks) ≡ (if is_eq (cmp (get_or ks i d) q) then Some i else number_by cmp (i + 1) q (drop (i + 1) ks))
number-at cmp i q d ks lt =
    ap (number_by cmp i q) (drop-cons ks i d lt)
    ∙ ap (λ n. if is_eq (cmp (get_or ks i d) q) then Some i else number_by cmp (i + 1) q (drop n ks)) (let e : suc i ≡ i + 1 = omega arith in e)

-- ---- places by tests that agree

pub place-same : {A : Type 0} (p q : A → Bool) → ((x : A) → p x ≡ q x) → (xs : List A) → place_where p xs ≡ place_where q xs
place-same p q h [] = refl
place-same p q h (x ∷ xs) = ap (λ b. if b then 0 else suc (place_where p xs)) (h x) ∙ ap (λ n. if q x then 0 else suc n) (place-same p q h xs)

place-map : {A B : Type 0} (f : A → B) (p : B → Bool) (xs : List A) → place_where p (map f xs) ≡ place_where (λ x. p (f x)) xs
place-map f p [] = refl
place-map f p (x ∷ xs) = ap (λ n. if p (f x) then 0 else suc n) (place-map f p xs)

eqb-sym : (a b : ℕ) → (a == b) ≡ (b == a)
eqb-sym a b = grind arith

and_same : (a b c d : Bool) → a ≡ c → b ≡ d → (a && b) ≡ (c && d)
and_same a b c d e f = ap (λ x. x && b) e ∙ ap (λ y. c && y) f

space-sym : (a b : Space) → same_space a b ≡ same_space b a
space-sym a b =
    and_same (a.vi == b.vi) ((a.clone == b.clone) && same_caller a.caller b.caller) (b.vi == a.vi) ((b.clone == a.clone) && same_caller b.caller a.caller) (eqb-sym a.vi b.vi)
    (and_same (a.clone == b.clone) (same_caller a.caller b.caller) (b.clone == a.clone) (same_caller b.caller a.caller) (eqb-sym a.clone b.clone) (by a.caller b.caller))
  where
    by : (x y : Option Caller) → same_caller x y ≡ same_caller y x
    by None None = refl
    by None (Some y) = refl
    by (Some x) None = refl
    by (Some x) (Some y) = and_same (x.space == y.space) (x.line == y.line) (y.space == x.space) (y.line == x.line) (eqb-sym x.space y.space) (eqb-sym x.line y.line)

pub space-place : (s : Space) (ss : List Space) → place_by space_cmp s ss ≡ place_where (same_space s) ss
space-place s ss = place-same (λ x. is_eq (space_cmp x s)) (same_space s) (λ x. space_same x s ∙ space-sym x s) ss

pub line-place : {A : Type 0} (f : A → ℕ × ℕ) (a b : ℕ) (xs : List A) → place_by line_cmp (a, b) (map f xs) ≡ place_where (λ x. ((f x).0 == a) && ((f x).1 == b)) xs
line-place f a b xs =
    place-map f (λ k. is_eq (line_cmp k (a, b))) xs
    ∙ place-same (λ x. is_eq (line_cmp (f x) (a, b))) (λ x. ((f x).0 == a) && ((f x).1 == b)) (λ x. is_eq-pair (f x).0 (f x).1 a b) xs

pub vi-place : (name : List ℕ) (vis : List FlatVi) → place_of name (map (λ vi. vi.name) vis) ≡ numbered vis name
vi-place name [] = refl
vi-place name (vi ∷ vis) = ap (λ n. if bytes_eq vi.name name then 0 else suc n) (vi-place name vis)

pub queue-place : (name : List ℕ) (qs : List QueueName) → place_of name (map (λ q. q.name) qs) ≡ place_where (λ q. bytes_eq q.name name) qs
queue-place name [] = refl
queue-place name (q ∷ qs) = ap (λ n. if bytes_eq q.name name then 0 else suc n) (queue-place name qs)
