-- What is linked: the data spaces that each call line enters are among those that are met.
use Rattle.std.proofs.Common.{◌≡◌, ◌⊎◌, inl, inr, ⊎_elim, ℕ, zero, suc, ◌==◌, Bool, true, false, ◌&&◌, ◌||◌, List, [], ◌∷◌, ◌++◌, map, length, Option, Some, None, refl, ap, sym, ◌∙◌, subst, arith}
use Rattle.std.specs.Prelude.{is_some, slice_get, if◌then◌else◌}
use Rattle.std.specs.List.{list_any, AllByRecursion}
use Rattle.std.proofs.lemmas.Bool.{eqb-true, false≢true, or_cases}
use Rattle.std.proofs.lemmas.List.Folds.{list_any-append}
use Rattle.g_diagram.specs.declared.hierarchy.Clones.{Clones}
use Rattle.g_diagram.specs.declared.hierarchy.Clones.TheVariants.{NonReentrant, Preallocated, Pool}
use Rattle.g_diagram.specs.declared.hierarchy.System.{System}
use Rattle.g_diagram.specs.declared.hierarchy.System.TheVariants.{Standard}
use Rattle.g_hier.specs.declared.linked.CallLine.{CallLine}
use Rattle.g_hier.specs.declared.linked.Caller.{Caller}
use Rattle.g_hier.specs.declared.linked.Outline.{Outline}
use Rattle.g_hier.specs.declared.linked.Placed.{Placed}
use Rattle.g_hier.specs.declared.linked.Space.{Space}
use Rattle.g_hier.specs.Outlines.{calls_at}
use Rattle.g_hier.specs.LinkOrder.{system_for, pool_spaces, enterable, placed_by, entered_by, same_caller, same_space, has_met, Enters, finished, passed, entered, main_placed, AreInLinkOrder, has_vi, with_vi, vis_after}
use Rattle.g_frames.specs.Program.{place_where}
use Rattle.g_accepted.proofs.Facts.{IsIn, in_left, in_right, in_map, all_both, and_first, and_second, and_both, same_number, some_same, none_some, the_one}

-- ---- found by a test

pub found_where : {A : Type 0} (test : A → Bool) (xs : List A) → list_any test xs ≡ true → (x : A) × (slice_get xs (place_where test xs) ≡ Some x) × (test x ≡ true)
found_where test [] h = absurd (false≢true h)
found_where {A} test (x ∷ xs) h = by (test x) refl h (found_where test xs)
  where
    by : (b : Bool) → test x ≡ b → (b || list_any test xs) ≡ true → (list_any test xs ≡ true → (y : A) × (slice_get xs (place_where test xs) ≡ Some y) × (test y ≡ true))
        → (y : A) × (slice_get (x ∷ xs) (if b then 0 else suc (place_where test xs)) ≡ Some y) × (test y ≡ true)
    by true e h more = (x, refl, e)
    by false e h more = more h

pub any_in : {A : Type 0} (test : A → Bool) (xs : List A) (x : A) → IsIn x xs → test x ≡ true → list_any test xs ≡ true
any_in test [] x is h = absurd is
any_in test (y ∷ xs) x (inl same) h = ap (λ b. b || list_any test xs) (ap test same ∙ h)
any_in test (y ∷ xs) x (inr is) h = or_second (test y) (list_any test xs) (any_in test xs x is h)
  where
    or_second : (a b : Bool) → b ≡ true → (a || b) ≡ true
    or_second true b e = refl
    or_second false b e = e

-- ---- the same data space

caller_turned : (a b : Option Caller) → same_caller a b ≡ true → same_caller b a ≡ true
caller_turned None None h = refl
caller_turned None (Some b) h = absurd (false≢true h)
caller_turned (Some a) None h = absurd (false≢true h)
caller_turned (Some a) (Some b) h =
    and_both (b.space == a.space) (b.line == a.line) (turned a.space b.space (and_first (a.space == b.space) (a.line == b.line) h)) (turned a.line b.line (and_second (a.space == b.space) (a.line == b.line) h))
  where
    turned : (x y : ℕ) → (x == y) ≡ true → (y == x) ≡ true
    turned x y e = let same : x ≡ y = eqb-true x y e in grind (arith, same)

pub space_turned : (a b : Space) → same_space a b ≡ true → same_space b a ≡ true
space_turned a b h =
    let more = and_second (a.vi == b.vi) ((a.clone == b.clone) && same_caller a.caller b.caller) h in
    and_both (b.vi == a.vi) ((b.clone == a.clone) && same_caller b.caller a.caller) (turned a.vi b.vi (and_first (a.vi == b.vi) ((a.clone == b.clone) && same_caller a.caller b.caller) h))
    (and_both (b.clone == a.clone) (same_caller b.caller a.caller) (turned a.clone b.clone (and_first (a.clone == b.clone) (same_caller a.caller b.caller) more))
    (caller_turned a.caller b.caller (and_second (a.clone == b.clone) (same_caller a.caller b.caller) more)))
  where
    turned : (x y : ℕ) → (x == y) ≡ true → (y == x) ≡ true
    turned x y e = let same : x ≡ y = eqb-true x y e in grind (arith, same)

caller_itself : (a : Option Caller) → same_caller a a ≡ true
caller_itself None = refl
caller_itself (Some a) = and_both (a.space == a.space) (a.line == a.line) (same_number a.space) (same_number a.line)

space_itself : (a : Space) → same_space a a ≡ true
space_itself a =
    and_both (a.vi == a.vi) ((a.clone == a.clone) && same_caller a.caller a.caller) (same_number a.vi) (and_both (a.clone == a.clone) (same_caller a.caller a.caller) (same_number a.clone) (caller_itself a.caller))

pub space_vi : (a b : Space) → same_space a b ≡ true → a.vi ≡ b.vi
space_vi a b h = eqb-true a.vi b.vi (and_first (a.vi == b.vi) ((a.clone == b.clone) && same_caller a.caller b.caller) h)

-- ---- what is met

get_left : (xs ys : List Placed) (k : ℕ) (p : Placed) → slice_get xs k ≡ Some p → slice_get (xs ++ ys) k ≡ Some p
get_left [] ys k p h = absurd (none_some p h)
get_left (x ∷ xs) ys zero p h = h
get_left (x ∷ xs) ys (suc k) p h = get_left xs ys k p h

get_new : (xs : List Placed) (p : Placed) → slice_get (xs ++ p ∷ []) (length xs) ≡ Some p
get_new [] p = refl
get_new (x ∷ xs) p = get_new xs p

get_either : (xs : List Placed) (p : Placed) (k : ℕ) (q : Placed) → slice_get (xs ++ p ∷ []) k ≡ Some q → (slice_get xs k ≡ Some q) ⊎ ((k ≡ length xs) × (p ≡ q))
get_either [] p zero q h = inr (refl, some_same p q h)
get_either [] p (suc k) q h = absurd (none_some q h)
get_either (x ∷ xs) p zero q h = inl h
get_either (x ∷ xs) p (suc k) q h = ⊎_elim inl (λ r. inr (ap suc r.0, r.1)) (get_either xs p k q h)

met_left : (xs ys : List Placed) (s : Space) → has_met xs s ≡ true → has_met (xs ++ ys) s ≡ true
met_left xs ys s h = list_any-append (λ p. same_space p.space s) xs ys ∙ ap (λ b. b || has_met ys s) h

-- from some data spaces that are met, and others that are entered in turn
record Closed (os : List Outline) (met spaces after : List Placed) : Type 0 where
  keeps : (k : ℕ) (p : Placed) → slice_get met k ≡ Some p → slice_get after k ≡ Some p
  keeps_met : (s : Space) → has_met met s ≡ true → has_met after s ≡ true
  meets : (p : Placed) → IsIn p spaces → has_met after p.space ≡ true
  calls : (k : ℕ) (p : Placed) → slice_get after k ≡ Some p
      → (slice_get met k ≡ Some p) ⊎ ((q : Placed) → IsIn q (entered_by os k p.system (calls_at os p.space.vi)) → has_met after q.space ≡ true)

closed : (os : List Outline) (met spaces after : List Placed) → Enters os met spaces after → Closed os met spaces after
closed os met [] after finished = record { keeps = λ k p h. h; keeps_met = λ s h. h; meets = λ p is. absurd is; calls = λ k p h. inl h }
closed os met (x ∷ spaces) after (passed h e) =
    let d : Closed os met spaces after = closed os met spaces after e in
    record {
      keeps = d.keeps;
      keeps_met = d.keeps_met;
      meets = λ p is. ⊎_elim
          (λ same. d.keeps_met p.space (let P : Placed → Type 0 = λ (y : Placed). has_met met y.space ≡ true in subst P same h))
          (d.meets p)
          is;
      calls = d.calls;
    }
closed os met (x ∷ spaces) after (entered {within = w} h i e) =
    let into : List Placed = entered_by os (length met) x.system (calls_at os x.space.vi) in
    let di : Closed os (met ++ x ∷ []) into w = closed os (met ++ x ∷ []) into w i in
    let de : Closed os w spaces after = closed os w spaces after e in
    record {
      keeps = λ k p g. de.keeps k p (di.keeps k p (get_left met (x ∷ []) k p g));
      keeps_met = λ s g. de.keeps_met s (di.keeps_met s (met_left met (x ∷ []) s g));
      meets = λ p is. ⊎_elim
          (λ same. de.keeps_met p.space (di.keeps_met p.space
          (let P : Placed → Type 0 = λ (y : Placed). has_met (met ++ x ∷ []) y.space ≡ true in
          subst P same (any_in (λ y. same_space y.space x.space) (met ++ x ∷ []) x (in_right x met (x ∷ []) (inl refl)) (space_itself x.space)))))
          (de.meets p)
          is;
      calls = λ k p g. ⊎_elim
          (λ gw. ⊎_elim
          (λ gm. ⊎_elim
          inl
          (λ r. inr (λ q is.
          let P : ℕ → Type 0 = λ n. IsIn q (entered_by os n p.system (calls_at os p.space.vi)) in
          let Q : Placed → Type 0 = λ (y : Placed). IsIn q (entered_by os (length met) y.system (calls_at os y.space.vi)) in
          de.keeps_met q.space (di.meets q (subst Q (sym r.1) (subst P r.0 is)))))
          (get_either met x k p gm))
          (λ f. inr (λ q is. de.keeps_met q.space (f q is)))
          (di.calls k p gw))
          inr
          (de.calls k p g);
    }

-- ---- known VIs

abbrev pub IsKnownVi : List Outline → Placed → Type 0
IsKnownVi os p = is_some (slice_get os p.space.vi) ≡ true

pool_vi : (vi k n : ℕ) (s : Space) → IsIn s (pool_spaces vi k n) → s.vi ≡ vi
pool_vi vi k zero s is = absurd is
pool_vi vi k (suc n) s (inl same) = ap (λ (x : Space). x.vi) (sym same)
pool_vi vi k (suc n) s (inr is) = pool_vi vi (suc k) n s is

pub enterable_vi : (c : Clones) (vi : ℕ) (caller : Caller) (s : Space) → IsIn s (enterable c vi caller) → s.vi ≡ vi
enterable_vi NonReentrant vi caller s (inl same) = ap (λ (x : Space). x.vi) (sym same)
enterable_vi NonReentrant vi caller s (inr none) = absurd none
enterable_vi Preallocated vi caller s (inl same) = ap (λ (x : Space). x.vi) (sym same)
enterable_vi Preallocated vi caller s (inr none) = absurd none
enterable_vi (Pool n) vi caller s is = pool_vi vi 0 n s is

all_placed : (os : List Outline) (vi : ℕ) (o : Outline) (system : System) → slice_get os vi ≡ Some o → (ss : List Space) → ((s : Space) → IsIn s ss → s.vi ≡ vi)
    → AllByRecursion (IsKnownVi os) (map (λ s. record { space = s; system = system_for o.system system }) ss)
all_placed os vi o system e [] h = tt
all_placed os vi o system e (s ∷ ss) h =
    (ap (λ v. is_some (slice_get os v)) (h s (inl refl)) ∙ ap is_some e, all_placed os vi o system e ss (λ t is. h t (inr is)))

placed_known : (os : List Outline) (o : Option Outline) (vi : ℕ) (caller : Caller) (system : System) → slice_get os vi ≡ o → AllByRecursion (IsKnownVi os) (placed_by o vi caller system)
placed_known os None vi caller system e = tt
placed_known os (Some o) vi caller system e = all_placed os vi o system e (enterable o.clones vi caller) (enterable_vi o.clones vi caller)

entered_known : (os : List Outline) (k : ℕ) (system : System) (cs : List CallLine) → AllByRecursion (IsKnownVi os) (entered_by os k system cs)
entered_known os k system [] = tt
entered_known os k system (c ∷ cs) =
    all_both (IsKnownVi os) (placed_by (slice_get os c.vi) c.vi (record { space = k; line = c.line }) system) (entered_by os k system cs)
    (placed_known os (slice_get os c.vi) c.vi (record { space = k; line = c.line }) system refl) (entered_known os k system cs)

all_known : (os : List Outline) (met spaces after : List Placed) → Enters os met spaces after → AllByRecursion (IsKnownVi os) met → AllByRecursion (IsKnownVi os) spaces → AllByRecursion (IsKnownVi os) after
all_known os met [] after finished m s = m
all_known os met (x ∷ spaces) after (passed h e) m s = all_known os met spaces after e m s.1
all_known os met (x ∷ spaces) after (entered {within = w} h i e) m s =
    let into : List Placed = entered_by os (length met) x.system (calls_at os x.space.vi) in
    all_known os w spaces after e
    (all_known os (met ++ x ∷ []) into w i (all_both (IsKnownVi os) met (x ∷ []) m (s.0, tt)) (entered_known os (length met) x.system (calls_at os x.space.vi))) s.1

-- ---- link order

first_met : (os : List Outline) (x : Placed) (after : List Placed) → Enters os [] (x ∷ []) after → slice_get after 0 ≡ Some x
first_met os x after (passed h e) = absurd (false≢true h)
first_met os x after (entered {within = w} h i e) =
    let into : List Placed = entered_by os 0 x.system (calls_at os x.space.vi) in
    let di : Closed os (x ∷ []) into w = closed os (x ∷ []) into w i in
    let de : Closed os w [] after = closed os w [] after e in
    de.keeps 0 x (di.keeps 0 x refl)

pub record InOrder (os : List Outline) (main : ℕ) (met : List Placed) : Type 0 where
  pub main_first : (p : Placed) × (slice_get met 0 ≡ Some p) × (p.space.vi ≡ main)
  pub known : AllByRecursion (IsKnownVi os) met
  pub calls : (k : ℕ) (p : Placed) → slice_get met k ≡ Some p → (q : Placed) → IsIn q (entered_by os k p.system (calls_at os p.space.vi)) → has_met met q.space ≡ true

pub in_order : (os : List Outline) (main : ℕ) (met : List Placed) → is_some (slice_get os main) ≡ true → AreInLinkOrder os main met → InOrder os main met
in_order os main met there h =
    let o = the_one (slice_get os main) there in
    let x : Placed = record { space = record { vi = main; clone = 0; caller = None }; system = system_for o.0.system Standard } in
    let e : Enters os [] (x ∷ []) met = subst (λ (ps : List Placed). Enters os [] ps met) (ap (λ y. main_placed y main) o.1) h in
    let c : Closed os [] (x ∷ []) met = closed os [] (x ∷ []) met e in
    record {
      main_first = (x, first_met os x met e, refl);
      known = all_known os [] (x ∷ []) met e tt (there, tt);
      calls = λ k p at. ⊎_elim (λ no_one. absurd (none_some p no_one)) (λ f. f) (c.calls k p at);
    }

-- ---- the VIs in link order

vi_stays : (order : List ℕ) (x v : ℕ) → has_vi order v ≡ true → has_vi (with_vi order x) v ≡ true
vi_stays order x v h = by (has_vi order x)
  where
    by : (b : Bool) → has_vi (if b then order else order ++ x ∷ []) v ≡ true
    by true = h
    by false = list_any-append (λ n. n == v) order (x ∷ []) ∙ ap (λ b. b || has_vi (x ∷ []) v) h

vi_added : (order : List ℕ) (x : ℕ) → has_vi (with_vi order x) x ≡ true
vi_added order x = by (has_vi order x) refl
  where
    by : (b : Bool) → has_vi order x ≡ b → has_vi (if b then order else order ++ x ∷ []) x ≡ true
    by true e = e
    by false e = any_in (λ n. n == x) (order ++ x ∷ []) x (in_right x order (x ∷ []) (inl refl)) (same_number x)

vis_stay : (order : List ℕ) (ps : List Placed) (v : ℕ) → has_vi order v ≡ true → has_vi (vis_after order ps) v ≡ true
vis_stay order [] v h = h
vis_stay order (p ∷ ps) v h = vis_stay (with_vi order p.space.vi) ps v (vi_stays order p.space.vi v h)

-- each data space's VI is in it
pub vis_have : (order : List ℕ) (ps : List Placed) (p : Placed) → IsIn p ps → has_vi (vis_after order ps) p.space.vi ≡ true
vis_have order [] p is = absurd is
vis_have order (q ∷ ps) p (inl same) =
    subst (λ (x : Placed). has_vi (vis_after (with_vi order q.space.vi) ps) x.space.vi ≡ true) same (vis_stay (with_vi order q.space.vi) ps q.space.vi (vi_added order q.space.vi))
vis_have order (q ∷ ps) p (inr is) = vis_have (with_vi order q.space.vi) ps p is

-- ---- what a call line enters

abbrev placed : System → Space → Placed
placed system s = record { space = s; system = system }

in_placed : (ss : List Space) (system : System) (s : Space) → IsIn s ss → IsIn (placed system s) (map (placed system) ss)
in_placed ss system s is = in_map (placed system) ss s is

abbrev pub placed_for : Outline → System → Space → Placed
placed_for o system s = record { space = s; system = system_for o.system system }

pub in_entered : (os : List Outline) (k : ℕ) (system : System) (cs : List CallLine) (c : CallLine) (o : Outline) → IsIn c cs → slice_get os c.vi ≡ Some o
    → (s : Space) → IsIn s (enterable o.clones c.vi (record { space = k; line = c.line })) → IsIn (placed_for o system s) (entered_by os k system cs)
in_entered os k system [] c o is at s among = absurd is
in_entered os k system (x ∷ cs) c o (inl same) at s among =
    let p : Placed = placed_for o system s in
    let here : IsIn p (placed_by (Some o) c.vi (record { space = k; line = c.line }) system) = in_placed (enterable o.clones c.vi (record { space = k; line = c.line })) (system_for o.system system) s among in
    let P : Option Outline → Type 0 = λ z. IsIn p (placed_by z c.vi (record { space = k; line = c.line }) system) in
    let Q : CallLine → Type 0 = λ y. IsIn p (placed_by (slice_get os y.vi) y.vi (record { space = k; line = y.line }) system) in
    in_left p (placed_by (slice_get os x.vi) x.vi (record { space = k; line = x.line }) system) (entered_by os k system cs) (subst Q (sym same) (subst P (sym at) here))
in_entered os k system (x ∷ cs) c o (inr is) at s among =
    in_right (placed_for o system s) (placed_by (slice_get os x.vi) x.vi (record { space = k; line = x.line }) system) (entered_by os k system cs)
    (in_entered os k system cs c o is at s among)

-- the number of a data space that was met
pub space_found : (met : List Placed) (s : Space) → has_met met s ≡ true
    → (found : Space) × (slice_get (map (λ p. p.space) met) (place_where (same_space s) (map (λ p. p.space) met)) ≡ Some found) × (found.vi ≡ s.vi)
space_found met s h =
    let f = found_where (same_space s) (map (λ p. p.space) met) (turned met h) in
    (f.0, f.1, sym (space_vi s f.0 f.2))
  where
    turned : (ps : List Placed) → has_met ps s ≡ true → list_any (same_space s) (map (λ p. p.space) ps) ≡ true
    turned [] h = absurd (false≢true h)
    turned (p ∷ ps) h =
        ⊎_elim
        (λ here. ap (λ b. b || list_any (same_space s) (map (λ q. q.space) ps)) (space_turned p.space s here))
        (λ later. or_second (same_space s p.space) (list_any (same_space s) (map (λ q. q.space) ps)) (turned ps later))
        (or_cases (same_space p.space s) (has_met ps s) h)
      where
        or_second : (a b : Bool) → b ≡ true → (a || b) ≡ true
        or_second true b e = refl
        or_second false b e = e
