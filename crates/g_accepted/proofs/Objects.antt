-- The VIs of a program, and its queues, references, kept registers and pools: what stands there, and where it is found.
use Rattle.std.proofs.Common.{◌≡◌, ◌⊎◌, inl, inr, ⊎_elim, ℕ, zero, suc, ◌+◌, ◌==◌, Bool, true, false, cond, not, ◌&&◌, ◌||◌, List, [], ◌∷◌, map, Option, Some, None, refl, ap, sym, ◌∙◌, subst, arith}
use Rattle.std.specs.Prelude.{is_some, slice_get, if◌then◌else◌}
use Rattle.std.specs.Option.{option_map_or}
use Rattle.std.specs.Str.{bytes_eq}
use Rattle.std.proofs.lemmas.Bool.{or_cases}
use Rattle.g_diagram.specs.declared.hierarchy.Vi.{Vi}
use Rattle.g_diagram.specs.Lines.{Entry}
use Rattle.g_diagram.specs.Ports.{first_vi}
use Rattle.g_hier.specs.declared.linked.Space.{Space}
use Rattle.g_hier.specs.Outlines.{number_of}
use Rattle.g_hier.specs.LinkOrder.{has_vi}
use Rattle.g_typing.specs.Types.{Types}
use Rattle.g_frames.specs.declared.program.QueueName.{QueueName}
use Rattle.g_frames.specs.Program.{FlatVi, flat_vi, flat_vis, numbered, all_on, queue_on, queues_in, has_queue, first_of_each, in_spaces, pools_in, takes_clone}
use Rattle.g_accepted.proofs.Facts.{IsIn, in_left, in_right, in_either, same_name, some_same, none_some}

-- ---- VIs

pub get_map : {A B : Type 0} (f : A → B) (xs : List A) (k : ℕ) (x : A) → slice_get xs k ≡ Some x → slice_get (map f xs) k ≡ Some (f x)
get_map f [] k x e = absurd (none_some x e)
get_map f (y ∷ xs) zero x e = ap Some (ap f (some_same y x e))
get_map f (y ∷ xs) (suc k) x e = get_map f xs k x e

pub get_mapped : {A B : Type 0} (f : A → B) (xs : List A) (k : ℕ) (y : B) → slice_get (map f xs) k ≡ Some y → (x : A) × (slice_get xs k ≡ Some x) × (f x ≡ y)
get_mapped f [] k y e = absurd (none_some y e)
get_mapped f (x ∷ xs) zero y e = (x, refl, some_same (f x) y e)
get_mapped f (x ∷ xs) (suc k) y e = get_mapped f xs k y e

pub get_flat : (every : List Vi) (types : ℕ → Types) (v : ℕ) (vis : List Vi) (k : ℕ) (vi : Vi) → slice_get vis k ≡ Some vi → slice_get (flat_vis every types v vis) k ≡ Some (flat_vi every (types (v + k)) vi)
get_flat every types v [] k vi e = absurd (none_some vi e)
get_flat every types v (x ∷ vis) zero vi e =
    let P : ℕ → Type 0 = λ n. Some (flat_vi every (types v) x) ≡ Some (flat_vi every (types n) vi) in
    subst P (omega arith) (ap (λ y. Some (flat_vi every (types v) y)) (some_same x vi e))
get_flat every types v (x ∷ vis) (suc k) vi e =
    let P : ℕ → Type 0 = λ n. slice_get (flat_vis every types (suc v) vis) k ≡ Some (flat_vi every (types n) vi) in
    subst P (omega arith) (get_flat every types (suc v) vis k vi e)

pub flat_got : (every : List Vi) (types : ℕ → Types) (v : ℕ) (vis : List Vi) (k : ℕ) (fv : FlatVi) → slice_get (flat_vis every types v vis) k ≡ Some fv
    → (vi : Vi) × (slice_get vis k ≡ Some vi) × (flat_vi every (types (v + k)) vi ≡ fv)
flat_got every types v [] k fv e = absurd (none_some fv e)
flat_got every types v (x ∷ vis) zero fv e =
    let P : ℕ → Type 0 = λ n. flat_vi every (types n) x ≡ fv in
    (x, refl, subst P (omega arith) (some_same (flat_vi every (types v) x) fv e))
flat_got every types v (x ∷ vis) (suc k) fv e =
    let r = flat_got every types (suc v) vis k fv e in
    let P : ℕ → Type 0 = λ n. flat_vi every (types n) r.0 ≡ fv in
    (r.0, r.1, subst P (omega arith) r.2)

pub flat_number : (every : List Vi) (types : ℕ → Types) (v : ℕ) (vis : List Vi) (name : List ℕ) → numbered (flat_vis every types v vis) name ≡ number_of vis name
flat_number every types v [] name = refl
flat_number every types v (x ∷ vis) name = ap (λ n. if bytes_eq x.name name then 0 else suc n) (flat_number every types (suc v) vis name)

-- the first VI of a name has its number
pub numbered_vi : (vis : List Vi) (name : List ℕ) (vi : Vi) → first_vi vis name ≡ Some vi → slice_get vis (number_of vis name) ≡ Some vi
numbered_vi [] name vi e = absurd (none_some vi e)
numbered_vi (x ∷ vis) name vi e = by (bytes_eq x.name name) e (numbered_vi vis name vi)
  where
    by : (b : Bool) → cond b (Some x) (first_vi vis name) ≡ Some vi → (first_vi vis name ≡ Some vi → slice_get vis (number_of vis name) ≡ Some vi)
        → slice_get (x ∷ vis) (if b then 0 else suc (number_of vis name)) ≡ Some vi
    by true e more = e
    by false e more = more e

-- ---- what nodes have

pub on_node : {A : Type 0} (on : Entry → List A) (es : List Entry) (e : Entry) (x : A) → IsIn e es → IsIn x (on e) → IsIn x (all_on on es)
on_node on [] e x is h = absurd is
on_node {A} on (y ∷ es) e x (inl same) h = in_left x (on y) (all_on on es) (subst (λ (z : Entry). IsIn x (on z)) (sym same) h)
on_node on (y ∷ es) e x (inr is) h = in_right x (on y) (all_on on es) (on_node on es e x is h)

pub of_node : {A : Type 0} (on : Entry → List A) (es : List Entry) (x : A) → IsIn x (all_on on es) → (e : Entry) × IsIn e es × IsIn x (on e)
of_node on [] x h = absurd h
of_node on (y ∷ es) x h =
    ⊎_elim
    (λ here. (y, inl refl, here))
    (λ later. let r = of_node on es x later in (r.0, inr r.1, r.2))
    (in_either x (on y) (all_on on es) h)

-- of a node of a data space, where the first has the number n
pub record InSpace (A : Type 0) (on : (space : ℕ) → FlatVi → Entry → List A) (vis : List FlatVi) (n : ℕ) (ss : List Space) (x : A) : Type 0 where
  pub number : ℕ
  pub space : Space
  pub is : slice_get ss number ≡ Some space
  pub vi : FlatVi
  pub vi_is : slice_get vis space.vi ≡ Some vi
  pub entry : Entry
  pub stands : IsIn entry vi.entries
  pub has : IsIn x (on (n + number) vi entry)

in_vi : {A : Type 0} (on : (space : ℕ) → FlatVi → Entry → List A) (n : ℕ) (o : Option FlatVi) (vi : FlatVi) (e : Entry) (x : A) → o ≡ Some vi → IsIn e vi.entries → IsIn x (on n vi e)
    → IsIn x (option_map_or (λ v. all_on (on n v) v.entries) o [])
in_vi {A} on n o vi e x same is h = subst (λ (p : Option FlatVi). IsIn x (option_map_or (λ v. all_on (on n v) v.entries) p [])) (sym same) (on_node (on n vi) vi.entries e x is h)

pub in_space : {A : Type 0} (on : (space : ℕ) → FlatVi → Entry → List A) (vis : List FlatVi) (n : ℕ) (ss : List Space) (k : ℕ) (s : Space) (vi : FlatVi) (e : Entry) (x : A) → slice_get ss k ≡ Some s
    → slice_get vis s.vi ≡ Some vi → IsIn e vi.entries → IsIn x (on (n + k) vi e) → IsIn x (in_spaces on vis n ss)
in_space on vis n [] k s vi e x at there is h = absurd (none_some s at)
in_space {A} on vis n (y ∷ ss) zero s vi e x at there is h =
    let P : ℕ → Type 0 = λ m. IsIn x (on m vi e) in
    in_left x (option_map_or (λ v. all_on (on n v) v.entries) (slice_get vis y.vi) []) (in_spaces on vis (suc n) ss)
    (in_vi on n (slice_get vis y.vi) vi e x (ap (λ (z : Space). slice_get vis z.vi) (some_same y s at) ∙ there) is (subst P (omega arith) h))
in_space {A} on vis n (y ∷ ss) (suc k) s vi e x at there is h =
    let P : ℕ → Type 0 = λ m. IsIn x (on m vi e) in
    in_right x (option_map_or (λ v. all_on (on n v) v.entries) (slice_get vis y.vi) []) (in_spaces on vis (suc n) ss) (in_space on vis (suc n) ss k s vi e x at there is (subst P (omega arith) h))

of_vi : {A : Type 0} (on : (space : ℕ) → FlatVi → Entry → List A) (n : ℕ) (o : Option FlatVi) (x : A) → IsIn x (option_map_or (λ v. all_on (on n v) v.entries) o [])
    → (vi : FlatVi) × (o ≡ Some vi) × (e : Entry) × IsIn e vi.entries × IsIn x (on n vi e)
of_vi on n None x h = absurd h
of_vi on n (Some vi) x h = let r = of_node (on n vi) vi.entries x h in (vi, refl, r.0, r.1, r.2)

pub of_space : {A : Type 0} (on : (space : ℕ) → FlatVi → Entry → List A) (vis : List FlatVi) (n : ℕ) (ss : List Space) (x : A) → IsIn x (in_spaces on vis n ss) → InSpace A on vis n ss x
of_space on vis n [] x h = absurd h
of_space {A} on vis n (s ∷ ss) x h =
    ⊎_elim
    (λ here.
    let r = of_vi on n (slice_get vis s.vi) x here in
    let P : ℕ → Type 0 = λ m. IsIn x (on m r.0 r.2) in
    record { number = 0; space = s; is = refl; vi = r.0; vi_is = r.1; entry = r.2; stands = r.3; has = subst P (omega arith) r.4 })
    (λ later.
    let r : InSpace A on vis (suc n) ss x = of_space on vis (suc n) ss x later in
    let P : ℕ → Type 0 = λ m. IsIn x (on m r.vi r.entry) in
    record { number = suc r.number; space = r.space; is = r.is; vi = r.vi; vi_is = r.vi_is; entry = r.entry; stands = r.stands; has = subst P (omega arith) r.has })
    (in_either x (option_map_or (λ v. all_on (on n v) v.entries) (slice_get vis s.vi) []) (in_spaces on vis (suc n) ss) h)

-- ---- queues

pub in_queues : (order : List ℕ) (v : ℕ) (vis : List FlatVi) (k : ℕ) (vi : FlatVi) (e : Entry) (q : QueueName) → slice_get vis k ≡ Some vi → has_vi order (v + k) ≡ true → IsIn e vi.entries → IsIn q (queue_on e.kind)
    → IsIn q (queues_in order v vis)
in_queues order v [] k vi e q at h is among = absurd (none_some vi at)
in_queues order v (x ∷ vis) zero vi e q at h is among =
    let own : List QueueName = all_on (λ y. queue_on y.kind) x.entries in
    let here : IsIn q own = on_node (λ y. queue_on y.kind) x.entries e q (subst (λ (z : FlatVi). IsIn e z.entries) (sym (some_same x vi at)) is) among in
    let P : ℕ → Type 0 = λ n. has_vi order n ≡ true in
    let has : has_vi order v ≡ true = subst P (omega arith) h in
    in_left q (if has_vi order v then own else []) (queues_in order (suc v) vis) (subst (λ (b : Bool). IsIn q (if b then own else [])) (sym has) here)
in_queues order v (x ∷ vis) (suc k) vi e q at h is among =
    let own : List QueueName = all_on (λ y. queue_on y.kind) x.entries in
    let P : ℕ → Type 0 = λ n. has_vi order n ≡ true in
    in_right q (if has_vi order v then own else []) (queues_in order (suc v) vis) (in_queues order (suc v) vis k vi e q at (subst P (omega arith) h) is among)

pub record OfQueue (vis : List FlatVi) (q : QueueName) : Type 0 where
  pub number : ℕ
  pub vi : FlatVi
  pub is : slice_get vis number ≡ Some vi
  pub entry : Entry
  pub stands : IsIn entry vi.entries
  pub has : IsIn q (queue_on entry.kind)

pub of_queues : (order : List ℕ) (v : ℕ) (vis : List FlatVi) (q : QueueName) → IsIn q (queues_in order v vis) → OfQueue vis q
of_queues order v [] q h = absurd h
of_queues order v (x ∷ vis) q h =
    let own : List QueueName = all_on (λ y. queue_on y.kind) x.entries in
    ⊎_elim
    (λ here. let r = of_node (λ y. queue_on y.kind) x.entries q (if_in (has_vi order v) here) in record { number = 0; vi = x; is = refl; entry = r.0; stands = r.1; has = r.2 })
    (λ later. let r : OfQueue vis q = of_queues order (suc v) vis q later in record { number = suc r.number; vi = r.vi; is = r.is; entry = r.entry; stands = r.stands; has = r.has })
    (in_either q (if has_vi order v then own else []) (queues_in order (suc v) vis) h)
  where
    if_in : (b : Bool) → IsIn q (if b then all_on (λ y. queue_on y.kind) x.entries else []) → IsIn q (all_on (λ y. queue_on y.kind) x.entries)
    if_in true h = h
    if_in false h = absurd h

pub first_kept : (qs met : List QueueName) (q : QueueName) → IsIn q (first_of_each qs met) → IsIn q qs
first_kept [] met q h = absurd h
first_kept (x ∷ qs) met q h = by (has_queue met x.name) h (first_kept qs met q) (first_kept qs (x ∷ met) q)
  where
    by : (b : Bool) → IsIn q (if b then first_of_each qs met else x ∷ first_of_each qs (x ∷ met)) → (IsIn q (first_of_each qs met) → IsIn q qs) → (IsIn q (first_of_each qs (x ∷ met)) → IsIn q qs) → IsIn q (x ∷ qs)
    by true h f g = inr (f h)
    by false (inl same) f g = inl same
    by false (inr h) f g = inr (g h)

-- each name stays
pub name_kept : (qs met : List QueueName) (q : QueueName) → IsIn q qs → (has_queue (first_of_each qs met) q.name ≡ true) ⊎ (has_queue met q.name ≡ true)
name_kept [] met q is = absurd is
name_kept (x ∷ qs) met q is = by (has_queue met x.name) refl is (name_kept qs met q) (name_kept qs (x ∷ met) q)
  where
    Goal : Bool → Type 0
    Goal b = (has_queue (if b then first_of_each qs met else x ∷ first_of_each qs (x ∷ met)) q.name ≡ true) ⊎ (has_queue met q.name ≡ true)

    named : x ≡ q → bytes_eq x.name q.name ≡ true
    named same = ap (λ (n : List ℕ). bytes_eq n q.name) (ap (λ (y : QueueName). y.name) same) ∙ same_name q.name

    or_second : (a b : Bool) → b ≡ true → (a || b) ≡ true
    or_second true b e = refl
    or_second false b e = e

    by : (b : Bool) → has_queue met x.name ≡ b → (x ≡ q) ⊎ IsIn q qs → (IsIn q qs → (has_queue (first_of_each qs met) q.name ≡ true) ⊎ (has_queue met q.name ≡ true))
        → (IsIn q qs → (has_queue (first_of_each qs (x ∷ met)) q.name ≡ true) ⊎ (has_queue (x ∷ met) q.name ≡ true)) → Goal b
    by true e (inl same) f g = inr (subst (λ (y : QueueName). has_queue met y.name ≡ true) same e)
    by true e (inr is) f g = f is
    by false e (inl same) f g = inl (ap (λ b. b || has_queue (first_of_each qs (x ∷ met)) q.name) (named same))
    by false e (inr is) f g =
        ⊎_elim
        (λ kept. inl (or_second (bytes_eq x.name q.name) (has_queue (first_of_each qs (x ∷ met)) q.name) kept))
        (λ h. ⊎_elim
        (λ here. inl (ap (λ b. b || has_queue (first_of_each qs (x ∷ met)) q.name) here))
        (λ before. inr before)
        (or_cases (bytes_eq x.name q.name) (has_queue met q.name) h))
        (g is)

-- ---- pools

pub pool_there : (order : List ℕ) (main v : ℕ) (vis : List FlatVi) (n : ℕ) → IsIn n (pools_in order main v vis) → (k : ℕ) × (n ≡ v + k) × (is_some (slice_get vis k) ≡ true)
pool_there order main v [] n h = absurd h
pool_there order main v (x ∷ vis) n h =
    ⊎_elim
    (λ here. (0, if_one (has_vi order v && (not (v == main) && takes_clone x.clones)) here, refl))
    (λ later.
    let r = pool_there order main (suc v) vis n later in
    let e = r.1 in
    (suc r.0, omega (arith, e), r.2))
    (in_either n (if has_vi order v && (not (v == main) && takes_clone x.clones) then v ∷ [] else []) (pools_in order main (suc v) vis) h)
  where
    if_one : (b : Bool) → IsIn n (if b then v ∷ [] else []) → n ≡ v + 0
    if_one true (inl same) = let e : v ≡ n = same in omega (arith, e)
    if_one true (inr none) = absurd none
    if_one false none = absurd none
