-- What is known of a name after more was kept.
use Rattle.std.proofs.Common.{◌≡◌, ℕ, zero, suc, ◌+◌, ◌<◌, ◌==◌, Bool, true, false, ◌&&◌, ◌||◌, cond, List, [], ◌∷◌, ◌++◌, length, refl, sym, ap, ◌∙◌, subst, length-append, arith}
use Rattle.std.specs.Prelude.{if◌then◌else◌, Option, Some, None, slice_get}
use Rattle.std.specs.List.{AllByRecursion}
use Rattle.std.specs.declared.cmp.Ordering.{Ordering}
use Rattle.std.specs.declared.cmp.Ordering.TheVariants.{Less, Equal, Greater}
use Rattle.std.specs.Ordering.{ordering_then, nat_cmp, is_eq}
use Rattle.std.specs.Cmp.{unsigned_tied}
use Rattle.std.specs.Cmp.Lexicographic.{slice_cmp}
use Rattle.std.specs.Option.{option_or}
use Rattle.std.specs.Str.{bytes_eq}
use Rattle.std.proofs.lemmas.Map.Text.{is_eq-slice_cmp}
use Rattle.g_types.specs.declared.ty.Ty.{Ty}
use Rattle.g_diagram.specs.Lines.{Arm}
use Rattle.g_rules_types.specs.Known.{Scope, scope_type, first_type, is_branch, case_among}
use Rattle.g_rules_types.specs.Panels.{found}

-- ---- keys

-- the test of a key
abbrev pub is_key : (d : ℕ) (name : List ℕ) (e : ℕ) (other : List ℕ) → Bool
is_key d name e other = is_eq (ordering_then (nat_cmp d e) (slice_cmp nat_cmp name other))

pub is_eq-then : (r o : Ordering) → is_eq (ordering_then r o) ≡ (is_eq r && is_eq o)
is_eq-then Less o = refl
is_eq-then Equal o = refl
is_eq-then Greater o = refl

pub key_is : (d : ℕ) (name : List ℕ) (e : ℕ) (other : List ℕ) → is_key d name e other ≡ ((d == e) && bytes_eq name other)
key_is d name e other = is_eq-then (nat_cmp d e) (slice_cmp nat_cmp name other)
    ∙ ap (λ b. b && is_eq (slice_cmp nat_cmp name other)) (unsigned_tied d e) ∙ ap (λ b. (d == e) && b) (is_eq-slice_cmp name other)

-- ---- a name of a diagram

pub own_kept : (k b : Bool) (t : Ty) (o p q : Option Ty) → q ≡ cond k (Some t) o → k ≡ b → option_or q p ≡ (if b then Some t else option_or o p)
own_kept true b t o p q e f = ap (λ x. option_or x p) e ∙ ap (λ c. if c then Some t else option_or o p) f
own_kept false b t o p q e f = ap (λ x. option_or x p) e ∙ ap (λ c. if c then Some t else option_or o p) f

-- ---- a case more

or_assoc : (x y z : Option Ty) → option_or (option_or x y) z ≡ option_or x (option_or y z)
or_assoc None y z = refl
or_assoc (Some t) y z = refl

first_append : (ss : List Scope) (ks js : List ℕ) (name : List ℕ) → first_type ss (ks ++ js) name ≡ option_or (first_type ss ks name) (first_type ss js name)
first_append ss [] js name = refl
first_append ss (k ∷ ks) js name =
    ap (option_or (scope_type (slice_get ss k) name)) (first_append ss ks js name)
    ∙ sym (or_assoc (scope_type (slice_get ss k) name) (first_type ss ks name) (first_type ss js name))

still_at : (ss : List Scope) (x : Scope) (k : ℕ) → k < length ss → slice_get (ss ++ x ∷ []) k ≡ slice_get ss k
still_at [] x k lt = absurd (omega (arith, lt))
still_at (s ∷ ss) x zero lt = refl
still_at (s ∷ ss) x (suc k) lt = still_at ss x k (omega (arith, lt))

last_at : (ss : List Scope) (x : Scope) → slice_get (ss ++ x ∷ []) (length ss) ≡ Some x
last_at [] x = refl
last_at (s ∷ ss) x = last_at ss x

first_still : (ss : List Scope) (x : Scope) (ks : List ℕ) (name : List ℕ) → AllByRecursion (λ k. k < length ss) ks → first_type (ss ++ x ∷ []) ks name ≡ first_type ss ks name
first_still ss x [] name h = refl
first_still ss x (k ∷ ks) name h =
    ap (λ o. option_or (scope_type o name) (first_type (ss ++ x ∷ []) ks name)) (still_at ss x k h.0)
    ∙ ap (option_or (scope_type (slice_get ss k) name)) (first_still ss x ks name h.1)

twice : (o : Option Ty) (b : Bool) → option_or o (if b then o else None) ≡ o
twice None true = refl
twice None false = refl
twice (Some t) b = refl

branch_more : (ss : List Scope) (k : ℕ) (ks : List ℕ) (name : List ℕ) (o : Option Ty) (b c : Bool) → scope_type (slice_get ss k) name ≡ o → first_type ss ks name ≡ (if c then o else None)
    → first_type ss ((if b then k ∷ [] else []) ++ ks) name ≡ (if b || c then o else None)
branch_more ss k ks name o true c e h = ap (λ p. option_or p (first_type ss ks name)) e ∙ ap (option_or o) h ∙ twice o c
branch_more ss k ks name o false c e h = h

-- what a new case tells
new_case : (ss : List Scope) (x : Scope) (d : ℕ) (arms : List Arm) (name : List ℕ)
    → first_type (ss ++ x ∷ []) (case_among d (length ss) arms) name ≡ (if is_branch d arms then found x name else None)
new_case ss x d [] name = refl
new_case ss x d (arm ∷ arms) name =
    branch_more (ss ++ x ∷ []) (length ss) (case_among d (length ss) arms) name (found x name) (arm.body == d) (is_branch d arms)
    (ap (λ o. scope_type o name) (last_at ss x)) (new_case ss x d arms name)

pub case_kept : (own : Option Ty) (ss more : List Scope) (x : Scope) (k d : ℕ) (arms : List Arm) (ks all : List ℕ) (name : List ℕ) → k ≡ length ss → more ≡ ss ++ x ∷ []
    → all ≡ ks ++ case_among d k arms → AllByRecursion (λ j. j < length ss) ks
    → option_or own (first_type more all name) ≡ option_or (option_or own (first_type ss ks name)) (if is_branch d arms then found x name else None)
case_kept own ss more x k d arms ks all name ek em ea below =
    ap (λ zs. option_or own (first_type zs all name)) em
    ∙ ap (λ js. option_or own (first_type (ss ++ x ∷ []) js name)) (ea ∙ ap (λ j. ks ++ case_among d j arms) ek)
    ∙ ap (option_or own) (first_append (ss ++ x ∷ []) ks (case_among d (length ss) arms) name)
    ∙ ap (λ o. option_or own (option_or o (first_type (ss ++ x ∷ []) (case_among d (length ss) arms) name))) (first_still ss x ks name below)
    ∙ ap (λ o. option_or own (option_or (first_type ss ks name) o)) (new_case ss x d arms name)
    ∙ sym (or_assoc own (first_type ss ks name) (if is_branch d arms then found x name else None))

-- ---- and it is kept

abbrev Below : ℕ → List ℕ → Type 0
Below n ks = AllByRecursion (λ k. k < n) ks

higher : (m n : ℕ) (ks : List ℕ) → m < n → Below m ks → Below n ks
higher m n [] lt h = tt
higher m n (k ∷ ks) lt h = (let l = h.0 in omega (arith, lt, l), higher m n ks lt h.1)

one_below : (n k : ℕ) (b : Bool) (ks : List ℕ) → k < n → Below n ks → Below n ((if b then k ∷ [] else []) ++ ks)
one_below n k true ks lt h = (lt, h)
one_below n k false ks lt h = h

among_below : (n k d : ℕ) (arms : List Arm) → k < n → Below n (case_among d k arms)
among_below n k d [] lt = tt
among_below n k d (arm ∷ arms) lt = one_below n k (arm.body == d) (case_among d k arms) lt (among_below n k d arms lt)

both_below : (n : ℕ) (ks js : List ℕ) → Below n ks → Below n js → Below n (ks ++ js)
both_below n [] js h g = g
both_below n (k ∷ ks) js h g = (h.0, both_below n ks js h.1 g)

pub still_indexed : (ss more : List Scope) (x : Scope) (k d : ℕ) (arms : List Arm) (ks all : List ℕ) → k ≡ length ss → more ≡ ss ++ x ∷ []
    → all ≡ ks ++ case_among d k arms → Below (length ss) ks → Below (length more) all
still_indexed ss more x k d arms ks all ek em ea below =
    let long : length more ≡ length ss + 1 = ap (λ (zs : List Scope). length zs) em ∙ length-append ss (x ∷ []) in
    let Q : List ℕ → Type 0 = λ js. Below (length more) js in
    subst Q (sym ea)
    (both_below (length more) ks (case_among d k arms) (higher (length ss) (length more) ks (omega (arith, long)) below)
    (among_below (length more) k d arms (omega (arith, long, ek))))
